-- LinkLemmas: rows that are added can be put into a chain
mod LinkLemmas
-- PlayLemmas: a list in play stays in play when a change is made
mod PlayLemmas
