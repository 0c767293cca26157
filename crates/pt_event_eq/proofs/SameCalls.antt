-- SameCalls: the derived `==` of two calls says whether they are equal.
use Rattle.std.proofs.Common.{◌≡◌, ℕ, Bool, ◌&&◌, List, nat_eq, ap}
use Rattle.std.specs.Bool.{Decides}
use Rattle.std.specs.Cmp.{booleans_Decides, unsigned_Decides}
use Rattle.std.specs.Str.{bytes_eq}
use Rattle.std.proofs.lemmas.Slice.Eq.{bytes_eq-Decides}
use Rattle.std.proofs.Math.Bool.{beq}
use denote.Enum.Declared.{values_one}
use Rattle.pt_types.specs.Times.{Timespec}
use Rattle.pt_types.specs.declared.call.Call.{Call}
use Rattle.pt_types.specs.declared.call.MutexKind.{MutexKind}
use Rattle.pt_types.specs.declared.time.Clock.{Clock}
use Rattle.pt_types.specs.contracts.call.Call as calls
use Rattle.pt_types.specs.contracts.call.MutexKind as kinds
use Rattle.pt_types.specs.contracts.time.Clock as clocks
use Rattle.pt_event_eq.proofs.DerivedEq.{Test, Tests, of_words, last, then, derived, derived_says}

abbrev name : Test (List ℕ)
name = record { test = bytes_eq; says = bytes_eq-Decides }

abbrev count : Test ℕ
count = record { test = nat_eq; says = unsigned_Decides }

abbrev flag : Test Bool
flag = record { test = beq; says = booleans_Decides }

abbrev kind : Test MutexKind
kind = of_words kinds.the_type tt

abbrev clock : Test Clock
clock = of_words clocks.the_type tt

abbrev parts : Test (ℕ × ℕ)
parts = then count count

abbrev deadline : Test Timespec
deadline = record {
  test = λ d e. nat_eq d.sec e.sec && nat_eq d.nsec e.nsec;
  says = λ d e.
      let fields = parts.says (d.sec, d.nsec) (e.sec, e.nsec) in (
        λ h. ap (λ (p : ℕ × ℕ). record { sec = p.0; nsec = p.1 }) (fields.0 h),
        λ h. fields.1 (ap (λ (t : Timespec). (t.sec, t.nsec)) h),
      );
}

abbrev named : Test (List ℕ × Unit {0})
named = last name

abbrev timed : Test (List ℕ × (Timespec × Unit {0}))
timed = then name (last deadline)

abbrev clocked : Test (List ℕ × (Clock × (Timespec × Unit {0})))
clocked = then name (then clock (last deadline))

-- the tests of the arguments of each call word, in the order of the variants
abbrev tests : Tests calls.the_parts
tests = (
  then name (then kind (last flag)),
  (
    named,
    (
      named,
      (
        timed,
        (
          clocked,
          (
            named,
            (
              named,
              (
                named,
                (
                  named,
                  (
                    named,
                    (
                      named,
                      (
                        timed,
                        (
                          clocked,
                          (
                            named,
                            (
                              named,
                              (
                                timed,
                                (
                                  clocked,
                                  (
                                    named,
                                    (
                                      named,
                                      (
                                        named,
                                        (
                                          named,
                                          (
                                            then name named,
                                            (
                                              then name timed,
                                              (
                                                then name clocked,
                                                (
                                                  named,
                                                  (
                                                    named,
                                                    (then name (last count), (named, (named, tt))),
                                                  ),
                                                ),
                                              ),
                                            ),
                                          ),
                                        ),
                                      ),
                                    ),
                                  ),
                                ),
                              ),
                            ),
                          ),
                        ),
                      ),
                    ),
                  ),
                ),
              ),
            ),
          ),
        ),
      ),
    ),
  ),
)

-- the result of the derived `==`
abbrev pub same : Call → Call → Bool
same a b = derived calls.the_parts tests (calls.as_values a) (calls.as_values b)

pub same_says : (a b : Call) → Decides (same a b) (a ≡ b)
same_says a b =
    let values = derived_says calls.the_parts tests (calls.as_values a) (calls.as_values b) in
    (λ e. values_one calls.enum a b (values.0 e), λ e. values.1 (ap calls.as_values e))
