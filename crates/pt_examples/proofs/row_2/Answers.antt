use Rattle.std.proofs.Common.{refl}
use Rattle.pt_examples.proofs.row_2.Goals as goal

pub returns-clause-legal : goal.returns-clause-legal
returns-clause-legal c = (
  refl,
  refl,
  (
    refl,
    refl,
    (
      refl,
      refl,
      (
        refl,
        refl,
        (
          refl,
          (
            refl,
            refl,
            (
              refl,
              refl,
              (
                refl,
                (refl, refl),
              ),
            ),
          ),
        ),
      ),
    ),
  ),
)
