-- Tellings: what is written for lines: their answers, or what else is told of them
pub mod Tellings
-- TellingLemmas: the answers to lines are a way to tell what came of them
pub mod TellingLemmas
-- Texts: how a text is written, and how writing it breaks off
pub mod Texts
-- Stops: what became of the lines to come: the writer broke, memory lacked, or all were told of
pub mod Stops
-- Ends: what a whole script has read, what is written of it, and when each fault comes
pub mod Ends
-- Programs: how a program that tells what came of a script ends, and what it reports
pub mod Programs
-- Laws: which line each answer belongs to, and that there is one text for all lines
pub mod Laws
