-- A `&` to a mark has what the mark knows. Assumes `Logic`.
use base.Logic.{snd∗}
use base.Before.{before}
use types.Logic.{sem}
use denote.RattleType.{RattleType}
use denote.Param.Laws.{Laws}
use denote.Param.Shared.{copy_shared}
use denote.Struct.Laws.{field_copy}
use denote.Struct.Lending.{of_Lends}
use Rattle.std.specs.contracts.marker.PhantomData as marker
use Rattle.std.specs.declared.option.Option.TheVariants.{Some}
use Rattle.once_cell.specs.Once.{noted}
use Rattle.pt_cells.specs.contracts.mark.Mark as mark
use Rattle.pt_cells.proofs.Known.{known_twice, lends_known}
use Rattle.pt_cells.proofs.mark.Mark.TheLaw.Statement.{statement}

pub shares : (T : RattleType) (L : Laws T) → statement T L
shares T L =
    of_Lends (mark.struct T) (mark.the_codes T.Denot T.coded (marker.the_row T).coded)
    (mark.the_heap T) (mark.the_lent T)
    (λ d p. record {
      contraction = λ M 𝓤 𝓛 κ. known_twice 𝓛 T d.cell d.value;
      mono = λ M 𝓤 𝓛 κ' κ.
          snd∗ 𝓤 (sem 𝓛 (before κ' κ)) (sem 𝓛 (noted T d.cell (Some d.value)));
    })
    (copy_shared (marker.the_field T) (field_copy (marker.the_type T) tt), tt)
    (λ M 𝓤 𝓛 d p.
    lends_known 𝓛 (noted T d.cell (Some d.value)) (known_twice 𝓛 T d.cell d.value)
    (mark.the_row T).lives)
