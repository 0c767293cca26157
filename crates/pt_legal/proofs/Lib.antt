-- SealRoom: the room of an event that needs a seal, and the refusal of one that needs none
pub mod SealRoom
