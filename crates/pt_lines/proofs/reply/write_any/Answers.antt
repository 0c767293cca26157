use Rattle.std.proofs.Common.{◌≡◌, ◌≤◌, ◌+◌, ◌∙◌, [], ◌∷◌, ◌++◌, ℕ, true, ap, arith, refl, decimal}
use Rattle.std.proofs.Common.{length, Result, Ok, Err}
use Rattle.std.specs.Option.{option_copied}
use Rattle.std.specs.Prelude.{vec_len, vec_capacity}
use Rattle.std.specs.Result.{OnOk, is_ok}
use Rattle.pt_lines.specs.Replies.{answer_word, sender}
use Rattle.pt_lines.proofs.AppendLemmas.{append-same, append-two, append-reply}
use Rattle.pt_lines.proofs.reply.write_any.Goals as goal

-- there is room for the whole answer after room was made
room_made :
    {T E : Type 0} (r : Result T E) (used from digits word room : ℕ) → is_ok r ≡ true
    → OnOk r (used + (from + digits + word + 2) ≤ room) → used + (from + digits + word + 2) ≤ room
room_made (Ok x) used from digits word room made h = h
room_made (Err x) used from digits word room made h = cc

pub append_sender-requires : goal.append_sender-requires
append_sender-requires g c =
    let room =
    room_made c.reserve.result (vec_len c.reserve.new.self) c.sender_len.result
    (length c.as_bytes-number.result.now) (length c.as_bytes-text.result.now)
    (vec_capacity c.reserve.new.self) c.if-is_err.ensures.negation c.reserve.ensures.ok in
    omega (arith, room)

pub append-requires : goal.append-requires
append-requires g c =
    let room =
    room_made c.reserve.result (vec_len c.reserve.new.self) c.sender_len.result
    (length c.as_bytes-number.result.now) (length c.as_bytes-text.result.now)
    (vec_capacity c.reserve.new.self) c.if-is_err.ensures.negation c.reserve.ensures.ok in
    omega (arith, room)

pub push_reserved-requires : goal.push_reserved-requires
push_reserved-requires g c =
    let room =
    room_made c.reserve.result (vec_len c.reserve.new.self) c.sender_len.result
    (length c.as_bytes-number.result.now) (length c.as_bytes-text.result.now)
    (vec_capacity c.reserve.new.self) c.if-is_err.ensures.negation c.reserve.ensures.ok in
    omega (arith, room)

pub append-requires-2 : goal.append-requires-2
append-requires-2 g c =
    let room =
    room_made c.reserve.result (vec_len c.reserve.new.self) c.sender_len.result
    (length c.as_bytes-number.result.now) (length c.as_bytes-text.result.now)
    (vec_capacity c.reserve.new.self) c.if-is_err.ensures.negation c.reserve.ensures.ok in
    omega (arith, room)

pub push_reserved-requires-2 : goal.push_reserved-requires-2
push_reserved-requires-2 g c =
    let room =
    room_made c.reserve.result (vec_len c.reserve.new.self) c.sender_len.result
    (length c.as_bytes-number.result.now) (length c.as_bytes-text.result.now)
    (vec_capacity c.reserve.new.self) c.if-is_err.ensures.negation c.reserve.ensures.ok in
    omega (arith, room)

pub returns : goal.returns
returns g c =
    let out = c.args.out.now.items in
    let from = sender (option_copied c.args.who) in
    let digits = decimal c.args.n in
    let word = answer_word c.args.word in
    let sent = c.append_sender.new.out.items in
    let counted = c.append.new.out.items in
    let spaced = c.push_reserved.new.self.items in
    let told = c.append-2.new.out.items in
    let ended = c.push_reserved-2.new.self.items in
    record {
      ok =
          append-reply out sent counted ended from digits word
          (c.append_sender.ensures.items ∙ ap (λ xs. xs ++ from) c.reserve.ensures.items)
          (append-same sent sent counted c.as_bytes-number.result.now digits refl
          (c.as_bytes-number.ensures.value ∙ c.format.ensures.text) c.append.ensures.items)
          (append-two counted told ended (32 ∷ word) (10 ∷ [])
          (append-two counted spaced told (32 ∷ []) word c.push_reserved.ensures.items
          (append-same spaced spaced told c.as_bytes-text.result.now word refl
          (c.as_bytes-text.ensures.value ∙ c.text.ensures.value) c.append-2.ensures.items))
          c.push_reserved-2.ensures.items);
      unchanged = tt;
      err = tt;
      succeeds_if = λ _. refl;
    }
