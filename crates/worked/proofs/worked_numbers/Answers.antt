use Rattle.std.proofs.Common.{refl}
use Rattle.worked.proofs.Computed.{computed}
use Rattle.worked.proofs.worked_numbers.Goals as goal

pub returns : goal.returns
returns c = record { listed = refl; facts = computed }
