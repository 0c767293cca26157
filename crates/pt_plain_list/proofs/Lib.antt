-- AdmittedLemmas: which clients are admitted, when the lists change
mod AdmittedLemmas
-- NextLemmas: what is found in the list, when one more of its waiters is looked at
mod NextLemmas
-- ForgetLemmas: what is left of a list when elements are taken away from its end to its start
mod ForgetLemmas
-- RoomLemmas: what fits in a list when room is made and elements are put in
mod RoomLemmas
