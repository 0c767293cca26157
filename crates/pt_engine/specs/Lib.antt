-- Scripts: what is known after some lines, and what the next one asks for
pub mod Scripts
-- Says: what is written for each line, and for all of them
pub mod LineAnswers
-- Names: what is stored of the clients of a script
pub mod Names
-- Engines: what the parts of the engine do, one line at a time
pub mod Engines
-- Places: rows in the order in which they were added, and the index of each by its key
pub mod Places
