-- DerivedEq: the derived `==` of an enum says whether two values are equal, if the tests of its
-- fields do
pub mod DerivedEq
-- SameCalls: the derived `==` of two calls says whether they are equal
pub mod SameCalls
