-- The log of answers: its answers and its room, by its fields, and after these change.
use Rattle.std.proofs.Common.{◌≡◌, ℕ, ◌+◌, ◌-◌, ◌<◌, ◌≤◌, List, [], ◌∷◌, ◌++◌, length, take, drop}
use Rattle.std.proofs.Common.{Vec, vec_len, vec_capacity, min, Result, Ok, Err, OnOk, get_or}
use Rattle.std.proofs.Common.{Option, None, MatchOption, sym, ap, ◌∙◌, subst, arith}
use Rattle.std.proofs.lemmas.List.{append-nil, nil_from_length, length-map, get_or-map, take_all}
use Rattle.std.proofs.lemmas.List.{length-drop}
use Rattle.std.proofs.lemmas.List.Elements.{All-drop}
use Rattle.pt_types.specs.Limits.{max_place}
use Rattle.pt_records.specs.declared.answers.Answered.{Answered}
use Rattle.pt_records.specs.declared.short.Short.{Short}
use Rattle.pt_records.specs.AnswerLogs.{StoredLog, AreReadable, HasLogRoom, ShortensSingle, IsThere}
use Rattle.pt_records.specs.AnswerLogs.{answer_of_short, answers_of_shorts, no_answer}
use Rattle.pt_records.proofs.Shortened.{answer_of_short-push}

-- equal lists of answers are readable alike
pub readable-same : (b : ℕ) (ws vs : List Answered) (ss ts : List Short) → vs ≡ ws → ts ≡ ss
    → AreReadable b ws ss → AreReadable b vs ts
readable-same b ws vs ss ts e f r = rw (e, f) r

-- an empty list is readable
pub readable-none : (b : ℕ) (vs : List Answered) (ts : List Short) → ts ≡ [] → b ≤ max_place
    → AreReadable b vs ts
readable-none b vs ts e low = rw e (record { base = low; there = λ k d l. absurd (omega arith) })

-- the answers from an index on are readable
pub readable-from : (b : ℕ) (ws vs : List Answered) (ss ts : List Short) (i : ℕ) → vs ≡ ws
    → ts ≡ ss → AreReadable b ws ss → AreReadable b vs (take (length ts - i) (drop i ts))
readable-from b ws vs ss ts i e f r =
    let rest : take (length ss - i) (drop i ss) ≡ drop i ss =
    take_all (length ss - i) (drop i ss) (omega (arith, length-drop i ss)) in
    rw (e, f, rest) (record { base = r.base; there = All-drop (IsThere ws) i ss r.there })

-- what the short answer at an index refers to is stored
pub there-at : {A : Type 0} (b : ℕ) (ws vs : List Answered) (ss : Vec Short A) (s : Short) (i : ℕ)
    → vs ≡ ws → s ≡ get_or ss.items i s → i < vec_len ss → AreReadable b ws ss.items → IsThere vs s
there-at b ws vs ss s i e f less r =
    let inside : i < length ss.items = omega (arith, less, ss.ok.0) in
    rw e (subst (λ x. IsThere ws x) (sym f) (r.there i s inside))

-- so is what the first one refers to
pub there-first : (b : ℕ) (ws : List Answered) (ss rest : List Short) (s : Short) → ss ≡ s ∷ rest
    → AreReadable b ws ss → IsThere ws s
there-first b ws ss rest s e r =
    let whole : AreReadable b ws (s ∷ rest) = subst (λ ts. AreReadable b ws ts) e r in
    whole.there 0 s (omega arith)

pub read-first : (b : ℕ) (ws : List Answered) (ss rest : List Short) (s : Short) (a : Answered)
    (seen : List Answered) → answers_of_shorts b ws ss ≡ seen → ss ≡ s ∷ rest
    → a ≡ answer_of_short b ws s → seen ≡ a ∷ answers_of_shorts b ws rest
read-first b ws ss rest s a seen is e is_queue =
    sym is
    ∙ (ap (answers_of_shorts b ws) e ∙ ap (λ x. x ∷ answers_of_shorts b ws rest) (sym is_queue))

-- no answer is read if there is none
pub read-none : (b : ℕ) (ws : List Answered) (ss : List Short) (seen : List Answered)
    (answer : Option Answered) → answers_of_shorts b ws ss ≡ seen → length ss ≡ 0 → answer ≡ None
    → MatchOption answer ((seen ≡ []) × (seen ≡ [])) (λ a. seen ≡ a ∷ seen)
read-none b ws ss seen answer is e none =
    let empty : seen ≡ [] = sym is ∙ ap (answers_of_shorts b ws) (nil_from_length ss e) in
    rw none (empty, empty)

-- a request for more room than is needed is enough if it succeeds
pub ok-less : {T E : Type 0} (answer : Result T E) (len k n c : ℕ) → k ≤ n
    → OnOk answer (len + n ≤ c) → OnOk answer (len + k ≤ c)
ok-less (Ok x) len k n c less ok = omega (arith, less, ok)
ok-less (Err e) len k n c less ok = tt

-- if there is too little room, no less is asked for than is needed
pub more-asked : (room many asked : ℕ) → room < many → many < 18446744073709551616
    → asked ≡ min (many + 64) 18446744073709551615 → many ≤ asked
more-asked room many asked less fits is = omega (arith, less, fits, is)

pub low-base : 0 ≤ max_place
low-base = omega arith

pub one-more : (n : ℕ) → n ≤ n + 1
one-more n = omega arith

pub room-more : (k n : ℕ) → n ≤ k + n
room-more k n = omega arith

pub room-asked : (room many asked : ℕ) → room < many → many ≤ asked → room ≤ asked
room-asked room many asked less more = omega (arith, less, more)

module _ {A : Type 0} where
  -- room is preserved if no list grew, and none lost memory
  pub room-same : (ss ts : Vec Short A) (ws vs : Vec Answered A) (n : ℕ) → HasLogRoom ss ws n
      → vec_len ts ≡ vec_len ss → vec_capacity ss ≤ vec_capacity ts → vec_len vs ≡ vec_len ws
      → vec_capacity ws ≤ vec_capacity vs → HasLogRoom ts vs n
  room-same ss ts ws vs n r a b c d = record {
    shorts = omega (arith, r.shorts, a, b);
    wholes = omega (arith, r.wholes, c, d);
  }

  pub room-shorts : (ss ts : Vec Short A) (ws : Vec Answered A) (n : ℕ) → HasLogRoom ss ws n
      → vec_len ts ≡ vec_len ss → vec_capacity ss ≤ vec_capacity ts → HasLogRoom ts ws n
  room-shorts ss ts ws n r a b =
      record { shorts = omega (arith, r.shorts, a, b); wholes = r.wholes }

  -- so it is if no answer is left
  pub room-empty : (ss ts : Vec Short A) (ws vs : Vec Answered A) (n : ℕ) → HasLogRoom ss ws n
      → vec_len ts ≡ 0 → vec_capacity ts ≡ vec_capacity ss → vec_len vs ≡ 0
      → vec_capacity vs ≡ vec_capacity ws → HasLogRoom ts vs n
  room-empty ss ts ws vs n r a b c d = record {
    shorts = omega (arith, r.shorts, a, b);
    wholes = omega (arith, r.wholes, c, d);
  }

  -- there is no room at first, and then as much as memory was got for
  pub room-none : (ss : Vec Short A) (ws : Vec Answered A) → HasLogRoom ss ws 0
  room-none ss ws = record { shorts = omega (arith, ss.ok.1); wholes = omega (arith, ws.ok.1) }

  pub room-got : (ss : Vec Short A) (ws : Vec Answered A) (n : ℕ) → vec_len ss ≡ 0
      → n ≤ vec_capacity ss → vec_len ws ≡ 0 → n ≤ vec_capacity ws → HasLogRoom ss ws n
  room-got ss ws n a b c d = record { shorts = omega (arith, a, b); wholes = omega (arith, c, d) }

  -- one more answer takes the room of one
  pub room-less : (ss ts : Vec Short A) (ws vs : Vec Answered A) (n : ℕ) → HasLogRoom ss ws n → 1
      ≤ n
      → vec_len ts ≡ vec_len ss + 1 → vec_capacity ts ≡ vec_capacity ss
      → vec_len vs ≤ vec_len ws + 1 → vec_capacity vs ≡ vec_capacity ws → HasLogRoom ts vs (n - 1)
  room-less ss ts ws vs n r one a b c d = record {
    shorts = omega (arith, r.shorts, one, a, b);
    wholes = omega (arith, r.wholes, one, c, d);
  }

  -- as many answers are read as are stored
  pub as-many : (b : ℕ) (ws : List Answered) (ss : Vec Short A)
      → length (answers_of_shorts b ws ss.items) ≡ vec_len ss
  as-many b ws ss = length-map ss.items (answer_of_short b ws) ∙ sym ss.ok.0

  pub many-more : (b : ℕ) (ws : List Answered) (ss : Vec Short A) (k : ℕ)
      → length (answers_of_shorts b ws ss.items) + k ≤ vec_len ss + k
  many-more b ws ss k = omega (arith, as-many b ws ss)

  -- a log that contracts see as these answers with this room
  module _ (b n : ℕ) (ws : Vec Answered A) (ss : Vec Short A) (seen : StoredLog)
      (is : record { items = answers_of_shorts b ws.items ss.items; capacity = vec_len ss + n }
      ≡ seen)
    where
      pub seen-many : length seen.items ≡ vec_len ss
      seen-many = sym (ap (λ (s : StoredLog). length s.items) is) ∙ as-many b ws.items ss

      pub seen-room : seen.capacity ≡ vec_len ss + n
      seen-room = sym (ap (λ (s : StoredLog). s.capacity) is)

      pub room-seen : length seen.items + n ≡ seen.capacity
      room-seen = omega (arith, seen-many, seen-room)

      -- there is room for one more
      pub room-left : length seen.items < seen.capacity → 1 ≤ n
      room-left less = omega (arith, less, seen-many, seen-room)

      pub shorts-left : length seen.items < seen.capacity → HasLogRoom ss ws n
          → vec_len ss < vec_capacity ss
      shorts-left less r = omega (arith, room-left less, r.shorts)

      pub wholes-left : length seen.items < seen.capacity → HasLogRoom ss ws n
          → vec_len ws < vec_capacity ws
      wholes-left less r = omega (arith, room-left less, r.wholes)

      -- after one more answer, the capacity is the same
      pub room-after : (ts : Vec Short A) → vec_len ts ≡ vec_len ss + 1 → 1 ≤ n
          → vec_len ts + (n - 1) ≡ seen.capacity
      room-after ts more one = omega (arith, more, one, seen-room)

      -- the same answers are seen in equal lists
      pub seen-same : (vs : List Answered) (ts : List Short) → vs ≡ ws.items → ts ≡ ss.items
          → answers_of_shorts b vs ts ≡ seen.items
      seen-same vs ts e f = rw (e, f) (ap (λ (s : StoredLog). s.items) is)

      -- the same with one more answer
      pub seen-push : (ts : List Short) (s : Short) (a : Answered) → ts ≡ ss.items ++ s ∷ []
          → AreReadable b ws.items ss.items → ShortensSingle b a s
          → answers_of_shorts b ws.items ts ≡ seen.items ++ a ∷ []
      seen-push ts s a e r one =
          ap (answers_of_shorts b ws.items) e
          ∙ (answer_of_short-push b ws.items ws.items [] ss.items s a (sym (append-nil ws.items)) r
          (one.same ws.items)
          ∙ ap (λ (s : StoredLog). s.items ++ a ∷ []) is)

      -- the capacity is no less if the room is unchanged, or at least this much was added
      pub room-kept : (ts : Vec Short A) → vec_len ts ≡ vec_len ss → seen.capacity ≤ vec_len ts + n
      room-kept ts e = omega (arith, e, seen-room)

      pub room-grown : (ts : Vec Short A) (k : ℕ) → vec_len ts ≡ vec_len ss
          → seen.capacity ≤ length seen.items + k → seen.capacity ≤ vec_len ts + k
      room-grown ts k e more = omega (arith, e, more, seen-many)

      -- the answers that are removed leave their room
      pub room-cleared : (k : ℕ) → seen.capacity ≤ k + n + length seen.items
      room-cleared k = omega (arith, seen-many, seen-room)

      -- as many more answers fit as there is room for, and no more
      pub room-enough : (k : ℕ) → k ≤ n → length seen.items + k ≤ seen.capacity
      room-enough k less = omega (arith, less, seen-many, seen-room)

      pub room-within : (k : ℕ) → n ≤ k → seen.capacity ≤ length seen.items + k
      room-within k less = omega (arith, less, seen-many, seen-room)

      pub room-short : (k : ℕ) → n < k → length seen.items + k ≤ seen.capacity → ⊥
      room-short k less enough = omega (arith, less, enough, seen-many, seen-room)

      -- an index of an answer is an index of a short answer
      pub index-within : (i : ℕ) → i < length seen.items → i < vec_len ss
      index-within i less = omega (arith, less, seen-many)

      pub start-within : (i : ℕ) (ts : List Short) → i ≤ length seen.items
          → length ts ≡ vec_len ss → i ≤ length ts
      start-within i ts less e = omega (arith, less, e, seen-many)

      -- what is read off the answer at an index
      pub place-at : (vs : List Answered) (s : Short) (a : Answered) (i : ℕ) → vs ≡ ws.items
          → s ≡ get_or ss.items i s → i < length seen.items → a ≡ answer_of_short b vs s
          → a.at ≡ (get_or seen.items i no_answer).at
      place-at vs s a i e f less is_queue =
          let inside : i < length ss.items = omega (arith, less, seen-many, ss.ok.0) in
          ap (λ (x : Answered). x.at)
          (is_queue
          ∙ (ap (λ us. answer_of_short b us s) e
          ∙ (ap (answer_of_short b ws.items) f
          ∙ (sym (get_or-map (answer_of_short b ws.items) ss.items i s no_answer inside)
          ∙ ap (λ (l : StoredLog). get_or l.items i no_answer) is))))
