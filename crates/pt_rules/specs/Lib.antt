-- Tables: which line of a verdict table applies
pub mod Tables
-- MutexRules: the lines of the tables of mutexes
pub mod MutexRules
-- RwlockRules: the lines of the tables of read-write locks
pub mod RwlockRules
-- CondRules: the lines of the table of a wait
pub mod CondRules
-- ObjectRules: the lines of the tables of making and destroying objects
pub mod ObjectRules
-- CallRules: the line of all tables that applies to a call, as it is read off the history
pub mod CallRules
-- Pages: the page of XSH that a call is on
pub mod Pages
-- Reasons: the words of each rule, and its source
pub mod Reasons
-- EventRules: why an entry is added, or an event refused
pub mod EventRules
