-- What is counted after one more line came.
use Rattle.std.proofs.Common.{◌≡◌, ℕ, suc, ◌+◌, ◌<◌, cond, List, [], ◌∷◌, ◌++◌}
use Rattle.std.proofs.Common.{length, sym, ap, subst, ◌∙◌, arith}
use Rattle.std.proofs.Common.{length-append, ◌^◌, Fits, w64}
use Rattle.std.proofs.lemmas.List.Sums.{count_by-le-length}
use Rattle.pt_grammar.specs.declared.client.Who.{Who}
use Rattle.pt_engine.specs.Scripts.{lines_of_who, same_who}
use Rattle.pt_engine.specs.Names.{NamesView, LineCounts, lines_counted}
use Rattle.pt_engine.specs.Names.{AreCounted, CountsOneLine}
use Rattle.pt_engine.proofs.Counted.{count_by_push}

pub raised_counted : (old new : LineCounts) (total : ℕ) (known : NamesView) (who : Who)
    (seen : List Who)
    → AreCounted old total known → CountsOneLine old who new → seen ≡ known.seen ++ who ∷ []
    → AreCounted new (total + 1) (record { seen = seen; clients = known.clients })
raised_counted old new total known who seen counted raised is = record {
  lines = λ other.
      raised.lines other
      ∙ ap (λ n. cond (same_who who other) (suc n) n) (counted.lines other)
      ∙ sym (count_by_push (λ w. same_who w other) known.seen who)
      ∙ ap (λ ws. lines_of_who ws other) (sym is);
  all =
      ap (λ n. n + 1) counted.all
      ∙ sym (length-append known.seen (who ∷ []))
      ∙ sym (ap length is);
  joined = λ name. raised.clients name ∙ counted.joined name;
}

-- a client has no more lines than came
pub few_counted : (k : LineCounts) (total : ℕ) (known : NamesView) (who : Who) (n : ℕ)
    → AreCounted k total known → length known.seen < n → lines_counted k who < n
few_counted k total known who n are few =
    let least = count_by-le-length (λ w. same_who w who) known.seen in
    subst (λ m. m < n) (sym (are.lines who)) (omega (arith, least, few))

pub one_more_fits : (n m : ℕ) → m ≡ n → m < 2 ^ 53 → Fits w64 (n + 1)
one_more_fits n m is few = omega (arith, is, few)
