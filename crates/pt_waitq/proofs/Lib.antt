-- ChangeLemmas: for code that stores queues: what is read off them and which clients wait, when its
-- lists change
pub mod ChangeLemmas
-- CallerLemmas: for callers: what inserting and removing require, and what they leave
pub mod CallerLemmas
-- MemberLemmas: members of queues, when calls come, go and are moved
pub mod MemberLemmas
