use Rattle.mz_dependency_laws.proofs.KnownDependencies.{known_dependencies}
use Rattle.mz_dependency_laws.proofs.LibraryRests.{used_exports, rests_on_used}
use Rattle.mz_dependency_laws.proofs.laws.dependency_law.Goals as goal

pub returns-clause-known : goal.returns-clause-known
returns-clause-known c = known_dependencies

pub returns-clause-used : goal.returns-clause-used
returns-clause-used c = used_exports

pub returns-clause-rests : goal.returns-clause-rests
returns-clause-rests c = rests_on_used
