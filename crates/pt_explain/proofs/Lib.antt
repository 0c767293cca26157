-- EntryLines: the lines of entries, from one place to the next
mod EntryLines
-- Saying: what is written for a line explains it
mod Saying
-- CallsFound: the call at a place, and why a forced entry follows
mod CallsFound
-- Pairs: a pair is known by its parts
mod Pairs
-- Quotes: answers after `> `, line after line
mod Quotes
-- Tellings: explanations of lines, one after another, and how many lines there are
mod Tellings
