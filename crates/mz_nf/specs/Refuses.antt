-- When a problem is refused.
use Rattle.std.specs.Prelude.{◌≡◌, ◌<◌}
use Rattle.mz_nf.specs.declared.problem.Problem.{Problem}
use Rattle.mz_nf.specs.declared.nf_fault.NfFault.{NfFault}
use Rattle.mz_nf.specs.declared.nf_fault.NfFault.TheVariants.{TooManyDisjuncts, Memory}
use Rattle.mz_nf.specs.Count.{count_of}

-- too many disjuncts: more than 1,024, with the problem's count; want of memory: at any problem
abbrev pub Refuses : Problem → NfFault → Type 0
Refuses p (TooManyDisjuncts count) = (count ≡ count_of p) × (1024 < count)
Refuses p Memory = Unit {0}
