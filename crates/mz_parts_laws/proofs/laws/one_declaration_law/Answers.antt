use Rattle.mz_parts_laws.proofs.OneDeclaration.{one_declaration, one_declarations}
use Rattle.mz_parts_laws.proofs.laws.one_declaration_law.Goals as goal

pub returns-clause-declaration : goal.returns-clause-declaration
returns-clause-declaration c = one_declaration

pub returns-clause-declarations : goal.returns-clause-declarations
returns-clause-declarations c = one_declarations
