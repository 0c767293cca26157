-- Tellings: what was answered is told so
mod Tellings
-- Stops: what the writer took of a text, and what became of the lines that it tells of
pub mod Stops
-- Wholes: a whole script, read piece by piece
pub mod Wholes
-- Noted: the line that made a call is noted at its place, and is the line of the call's client
mod Noted
-- Settled: a history goes on with forced entries until nothing is forced
mod Settled
-- Unrefused: an event that is not refused when a seal may make room is not refused after the seal
mod Unrefused
-- EachTexts: what was written for lines is a text for some lack of memory
mod EachTexts
-- OneTexts: there is one text for all lines, and what begins the text of the first lines begins it
mod OneTexts
