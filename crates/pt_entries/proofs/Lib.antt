-- Spelled: the text of a call spells that call
mod Spelled
-- Cutting: texts are cut at the first of a byte
mod Cutting
-- Commas: the text of a call has no comma
mod Commas
-- EntryReading: entries are read back from their texts
mod EntryReading
