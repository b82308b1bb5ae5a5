use Rattle.effic_cert.proofs.writing.+put_wide.Given as goal

abbrev pub decreases-put_wide : goal.decreases-put_wide
decreases-put_wide g l = l.n
