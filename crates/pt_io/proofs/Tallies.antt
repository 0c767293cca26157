-- What a device has counted after one more call.
use Rattle.std.proofs.Common.{◌≡◌, ℕ, ◌+◌, ◌-◌, ◌≤◌, List, [], ◌∷◌, ◌++◌, length, take}
use Rattle.std.proofs.Common.{Option, Some, None, Result, Ok, Err, sym, ap, ◌∙◌, arith}
use Rattle.std.proofs.Common.{length-append}
use Rattle.std.proofs.lemmas.List.{length-take-le, take_all, take-append-le}
use Rattle.std.specs.Io.KnownBytes.{Consumes, Keeps, ReadConsumes}
use Rattle.pt_io.specs.Devices.{Tally, all_but, rejections_in}

pub one_call : {D X : Type 0} {old now : Tally D} (rows new : List X) (x : X) → old ≡ now
    → old.reads ≡ length rows → new ≡ rows ++ x ∷ [] → length new ≡ now.reads + 1
one_call rows new x is len more =
    ap length more
    ∙ length-append rows (x ∷ [])
    ∙ ap (λ n. n + 1) (sym len)
    ∙ ap (λ t. t.reads + 1) is

-- bytes are appended to those that a device has noted
pub grown_as : {D : Type 0} {old now : Tally D} (log grown piece : List ℕ) → old ≡ now
    → old.bytes ≡ log → grown ≡ log ++ piece → grown ≡ now.bytes ++ piece
grown_as log grown piece is same more =
    more ∙ ap (λ bytes. bytes ++ piece) (sym same ∙ ap (λ t. t.bytes) is)

-- all bytes except those that came just now
all_but_piece : (log piece : List ℕ) → all_but (length piece) (log ++ piece) ≡ log
all_but_piece log piece =
    let long = length-append log piece in
    let count : length (log ++ piece) - length piece ≡ length log = omega (arith, long) in
    ap (λ n. take n (log ++ piece)) count
    ∙ take-append-le (length log) log piece (omega arith)
    ∙ take_all (length log) log (omega arith)

pub all_but_new : {D : Type 0} {old now : Tally D} (log grown latest piece begun : List ℕ)
    → old ≡ now → old.bytes ≡ log → grown ≡ log ++ piece → latest ≡ begun ++ piece → begun ≡ []
    → all_but (length latest) grown ≡ now.bytes
all_but_new log grown latest piece begun is same more recent none =
    ap (λ bytes. all_but (length latest) bytes) more
    ∙ ap (λ bytes. all_but (length bytes) (log ++ piece))
    (recent ∙ ap (λ bytes. bytes ++ piece) none)
    ∙ all_but_piece log piece
    ∙ sym same
    ∙ ap (λ t. t.bytes) is

pub all_but_none : {D : Type 0} {old now : Tally D} (log begun : List ℕ)
    → old ≡ now → old.bytes ≡ log → begun ≡ [] → all_but (length begun) log ≡ now.bytes
all_but_none log begun is same none =
    ap (λ bytes. all_but (length bytes) log) none
    ∙ take_all (length log - 0) log (omega arith)
    ∙ sym same
    ∙ ap (λ t. t.bytes) is

-- all bytes except those since the latest flush
pub all_but_more : {D : Type 0} {old now : Tally D} (log grown latest more piece : List ℕ)
    → old ≡ now → old.bytes ≡ log → old.recent ≡ length latest → grown ≡ log ++ piece
    → more ≡ latest ++ piece → all_but (length more) grown ≡ all_but now.recent now.bytes
all_but_more {old = old} log grown latest more piece is same count all recent =
    ap (λ bytes. all_but (length more) bytes) all
    ∙ ap (λ bytes. all_but (length bytes) (log ++ piece)) recent
    ∙ both
    ∙ ap (λ n. all_but n log) (sym count)
    ∙ ap (λ bytes. all_but old.recent bytes) (sym same)
    ∙ ap (λ t. all_but t.recent t.bytes) is
  where
    both : all_but (length (latest ++ piece)) (log ++ piece) ≡ all_but (length latest) log
    both =
        let long = length-append log piece in
        let late = length-append latest piece in
        let left : length (log ++ piece) - length (latest ++ piece) ≡ length log - length latest =
        omega (arith, long, late) in
        ap (λ n. take n (log ++ piece)) left
        ∙ take-append-le (length log - length latest) log piece (omega arith)

pub counted_as : {D : Type 0} {old now : Tally D} (n m k : ℕ) → old ≡ now → old.rejections ≡ n
    → m ≡ n + k → m ≡ now.rejections + k
counted_as n m k is same more =
    more ∙ ap (λ j. j + k) (sym same ∙ ap (λ t. t.rejections) is)

pub counted_none : {D E : Type 0} {old now : Tally D} (n : ℕ) (r : Result ℕ E) (e : E)
    (buf : List ℕ) → old ≡ now → old.rejections ≡ n → r ≡ Err e
    → n ≡ now.rejections + rejections_in r buf
counted_none n r e buf is same fails =
    counted_as n n (rejections_in r buf) is same
    (let none : rejections_in r buf ≡ 0 = ap (λ s. rejections_in s buf) fails in
    omega (arith, none))

pub front : (n : ℕ) (buf : List ℕ) → n ≤ length buf → n ≡ length (take n buf)
front n buf within = sym (length-take-le n buf within)

pub keeps_on : (a b c : Option (List ℕ)) → Keeps a b → Keeps b c → Keeps a c
keeps_on None b c first then = tt
keeps_on (Some x) None c first then = absurd first
keeps_on (Some x) (Some y) None first then = absurd then
keeps_on (Some x) (Some y) (Some z) first then = then ∙ first

consumes_on : (a b c : Option (List ℕ)) (bytes : List ℕ) → Keeps a b → Consumes b c bytes
    → Consumes a c bytes
consumes_on None b c bytes kept given = tt
consumes_on (Some x) None c bytes kept given = absurd kept
consumes_on (Some x) (Some y) None bytes kept given = absurd given
consumes_on (Some x) (Some y) (Some z) bytes kept given = sym kept ∙ given

-- a read after others that moved nothing
pub reads_on : {E : Type 0} (a b c : Option (List ℕ)) (r : Result ℕ E) (buf : List ℕ)
    → Keeps a b → ReadConsumes b c r buf → ReadConsumes a c r buf
reads_on a b c (Ok n) buf kept given = (consumes_on a b c (take n buf) kept given.0, given.1)
reads_on a b c (Err e) buf kept given = keeps_on a b c kept given
