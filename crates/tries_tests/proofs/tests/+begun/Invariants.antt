use Rattle.tries_tests.proofs.tests.+begun.Given as goal

abbrev pub decreases-begun : goal.decreases-begun
decreases-begun l = l.tries
