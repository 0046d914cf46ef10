-- Each call reads one element fewer.
use Rattle.mr_log.proofs.cite.+read_elements.Given as goal

abbrev pub decreases-read_elements : goal.decreases-read_elements
decreases-read_elements l = l.count
