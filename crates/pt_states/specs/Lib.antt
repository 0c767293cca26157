-- Turns: the calls that wait at an object, in the order of their turns
pub mod Turns
-- States: the text of what an object is doing
pub mod States
-- Laws: the turns at an object are in order, and none is missing
pub mod Laws
