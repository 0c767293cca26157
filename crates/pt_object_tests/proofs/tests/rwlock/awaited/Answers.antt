use Rattle.std.proofs.Common.{ℕ, Bool, List, ◌≡◌, ◌-◌, ◌∙◌, true, false, nat_lt, get_or, length}
use Rattle.std.proofs.Common.{refl, ap, arith}
use Rattle.std.specs.Prelude.{replicate}
use Rattle.std.proofs.lemmas.Grind.{common_steps}
use Rattle.std.proofs.lemmas.List.{get_or-replicate, get_or_past, length-replicate}
use Rattle.pt_rwlock.specs.AwaitedLock.{writers_at}
use Rattle.pt_object_tests.proofs.tests.rwlock.awaited.Goals as goal

abbrev zeros : ℕ → List ℕ
zeros n = replicate n 0

-- a list of zeros reads as zero everywhere
zero_at : (n i : ℕ) → get_or (zeros n) i 0 ≡ 0
zero_at n i = go (nat_lt i n) refl
  where
    go : (b : Bool) → nat_lt i n ≡ b → get_or (zeros n) i 0 ≡ 0
    go true e = get_or-replicate n i 0 0 (grind arith)
    go false e =
        let long : length (zeros n) ≡ n = length-replicate {A = ℕ} n 0 in
        get_or_past (zeros n) i 0 (grind (arith, common_steps))

pub note_writer-requires : goal.note_writer-requires
note_writer-requires c =
    let none : writers_at c.new-lock.result c.args.writer ≡ 0 =
    ap (λ r. writers_at r c.args.writer) c.new-lock.ensures ∙ zero_at 99 (c.args.writer - 1) in
    omega (arith, none)
