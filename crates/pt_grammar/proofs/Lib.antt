-- VerbLemmas: each verb is found by its word, and its word is short and has no space
pub mod VerbLemmas
-- ArgumentLemmas: what fields are read as, and what is read back from its fields
pub mod ArgumentLemmas
-- CallLineLemmas: a client's line that begins with the word of a call is that call, or is refused
pub mod CallLineLemmas
-- WholeLemmas: a single name or number is the whole text, since neither has a space
pub mod WholeLemmas
-- SpelledLemmas: the text of a line is the word of a verb and the fields that it is read from
pub mod SpelledLemmas
-- CallLemmas: each call is spelled by its verb
pub mod CallLemmas
-- GrammarLemmas: a text is read as exactly the line that it spells
pub mod GrammarLemmas
-- ClientLemmas: a line's client and the text after it
pub mod ClientLemmas
-- StartLemmas: the bytes of a client's name by the table, and the client that a line begins with
pub mod StartLemmas
-- ScriptLemmas: a line of a script is read as exactly what it spells
pub mod ScriptLemmas
-- WordLemmas: a verb's word, a space and fields are read as the verb and the fields are
pub mod WordLemmas
