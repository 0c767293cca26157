-- Earlier: the first of some waiters after one more is looked at
pub mod Earlier
