-- OpenOrder: calls that wait and open calls, each after those with lesser places.
use Rattle.std.proofs.Common.{ℕ, suc, ◌<◌, List, [], ◌∷◌, arith}
use Rattle.pt_model.specs.Histories.{History, place}
use Rattle.pt_model.specs.Searches.{Each}
use Rattle.pt_model.specs.declared.waiting_call.WaitingCall.{WaitingCall}
use Rattle.pt_model.specs.WaitingCall.{waiting_calls}
use Rattle.pt_model.specs.Answers.{outcome, open_calls, is_open_by}
use Rattle.pt_model.proofs.Rising.{Rising, waiting_calls-below, waiting_calls-rising}
use Rattle.pt_model.proofs.Ascending.{Ascends, Ascends-filter, Each-filter}

ascends_rising : (m : ℕ) (ws : List WaitingCall) → Rising m ws → Ascends m ws
ascends_rising m [] r = tt
ascends_rising m (w ∷ ws) r = (r.0, ascends_rising (suc w.place) ws r.1)

pub waiting_calls-ascends : (h : History) → Ascends 0 (waiting_calls h)
waiting_calls-ascends h = ascends_rising 0 (waiting_calls h) (waiting_calls-rising h)

pub open-ascends : (h : History) → Ascends 0 (open_calls h)
open-ascends h = Ascends-filter (is_open_by h (outcome h)) 0 (waiting_calls h)
    (waiting_calls-ascends h)

pub open-below : (h : History) → Each (λ w. w.place < place h) (open_calls h)
open-below h = Each-filter _ (is_open_by h (outcome h)) (waiting_calls h) (waiting_calls-below h)
