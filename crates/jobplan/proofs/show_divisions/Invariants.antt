-- Each division leaves a smaller number.
use Rattle.jobplan.proofs.show_divisions.Given as goal

abbrev pub decreases-loop-pair : goal.decreases-loop-pair
decreases-loop-pair g l = l.rest
