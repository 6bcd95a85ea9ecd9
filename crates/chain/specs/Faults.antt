-- The numbers of the refusals, and their texts. Assumes nothing.
use Rattle.std.specs.Prelude.{ℕ, List, codes}
use Rattle.recoding.specs.Faults.{fault_number, fault_text}
use Rattle.chain.specs.declared.fault.ChainFault.{ChainFault}
use Rattle.chain.specs.declared.fault.ChainFault.TheVariants.{Number, Capacity}

abbrev pub chain_number : ChainFault → ℕ
chain_number (Number e) = fault_number e
chain_number Capacity = 32

abbrev pub chain_text : ChainFault → List ℕ
chain_text (Number e) = fault_text e
chain_text Capacity = codes "more steps than the memory has words"
