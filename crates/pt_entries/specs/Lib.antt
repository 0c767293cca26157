-- CallTexts: the text of a call, which is the line that makes it
pub mod CallTexts
-- EntryTexts: the text of an entry
pub mod EntryTexts
-- Laws: the text of a call is read as that call, and the text of an entry is that of no other
pub mod Laws
