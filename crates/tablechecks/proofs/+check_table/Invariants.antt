-- The depth left falls. Assumes nothing.
use Rattle.tablechecks.proofs.+check_table.Given as goal

abbrev pub decreases-check_table : goal.decreases-check_table
decreases-check_table l = l.depth
