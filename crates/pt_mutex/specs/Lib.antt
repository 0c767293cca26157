-- MutexState: a mutex with its bound waits, and each change of it
pub mod MutexState
