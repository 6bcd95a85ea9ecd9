-- The numbers of the refusals, and their texts. Assumes nothing.
use Rattle.std.specs.Prelude.{ℕ, List, codes}
use Rattle.recoding.specs.declared.fault.NumberFault.{NumberFault}
use Rattle.recoding.specs.declared.fault.NumberFault.TheVariants.{Zero, NotPair}

abbrev pub fault_number : NumberFault → ℕ
fault_number Zero = 52
fault_number NotPair = 53

abbrev pub fault_text : NumberFault → List ℕ
fault_text Zero = codes "a job number is at least 1"
fault_text NotPair = codes "not one of the ten pairs"
