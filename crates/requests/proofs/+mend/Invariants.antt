use Rattle.requests.proofs.+mend.Given as goal

abbrev pub decreases-mend : goal.decreases-mend
decreases-mend l = l.levels
