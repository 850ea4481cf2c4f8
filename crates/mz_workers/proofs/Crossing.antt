-- Which types may cross threads.
use denote.Param.Send.{IsSend, IsSync, sendable}
use Rattle.std.proofs.Crossing.{crosses}
use Rattle.mz_corpus.proofs.corpus.Corpus.TheSendSync as CorpusS
use Rattle.mz_logic.proofs.sym.Sym.TheSendSync as SymS
use Rattle.mz_logic.specs.contracts.term.Terms as Terms
use Rattle.mz_logic.proofs.term.Term.TheLaws.TheKnot as TermK
use Rattle.mz_core.specs.contracts.adjective.Adjective as Adjective
use Rattle.mz_core.specs.contracts.adjectives.Adjectives as Adjectives
use Rattle.mz_core.specs.contracts.radix.Radix as Radix
use Rattle.mz_core.specs.contracts.soft_type.SoftType as SoftType
use Rattle.mz_logic.specs.contracts.term.Term as Term
use Rattle.mz_core.specs.contracts.statement.Statement as Statement
use Rattle.mz_core.proofs.statement.Statement.TheLaws.TheKnot as StatementK
use Rattle.mz_core.specs.contracts.formula_definiens.FormulaCase as FormulaCase
use Rattle.mz_core.specs.contracts.formula_definiens.FormulaCases as FormulaCases
use Rattle.mz_core.specs.contracts.formula_definiens.FormulaDefiniens as FormulaDefiniens
use Rattle.mz_logic.proofs.kind.Kind.TheSendSync as KindS
use Rattle.mz_base.proofs.numbers.Numbers.TheSendSync as NumbersS
use Rattle.mz_core.specs.contracts.soft_types.SoftTypes as SoftTypes
use Rattle.mz_base.proofs.text.Text.TheSendSync as TextS
use Rattle.mz_core.specs.contracts.pattern.Pattern as Pattern
use Rattle.mz_core.specs.contracts.definition.AtomDefinition as AtomDefinition
use Rattle.mz_logic.specs.contracts.literal.Literal as Literal
use Rattle.mz_core.specs.contracts.redefinition.AtomRedefinition as AtomRedefinition
use Rattle.mz_core.specs.contracts.definition.AttributeDefinition as AttributeDefinition
use Rattle.mz_core.specs.contracts.set_term.Choice as Choice
use Rattle.mz_core.specs.contracts.registration.ConditionalRegistration as ConditionalRegistration
use Rattle.mz_core.specs.contracts.term_definiens.TermCase as TermCase
use Rattle.mz_core.specs.contracts.term_definiens.TermCases as TermCases
use Rattle.mz_core.specs.contracts.term_definiens.TermDefiniens as TermDefiniens
use Rattle.mz_core.specs.contracts.definition.EqualsDefinition as EqualsDefinition
use Rattle.mz_core.specs.contracts.registration.EquationRegistration as EquationRegistration
use Rattle.mz_core.specs.contracts.registration.ExistentialRegistration as ExistentialRegistration
use Rattle.mz_core.specs.contracts.redefinition.FunctorMeaning as FunctorMeaning
use Rattle.mz_core.specs.contracts.redefinition.FunctorRedefinition as FunctorRedefinition
use Rattle.mz_core.specs.contracts.registration.FunctorialRegistration as FunctorialRegistration
use Rattle.mz_core.specs.contracts.definition.MeansDefinition as MeansDefinition
use Rattle.mz_core.specs.contracts.redefinition.ModeRedefinition as ModeRedefinition
use Rattle.mz_core.specs.contracts.notation.Meaning as Meaning
use Rattle.mz_core.specs.contracts.notation.Notation as Notation
use Rattle.mz_core.specs.contracts.property.Operation as Operation
use Rattle.mz_core.specs.contracts.property.Relation as Relation
use Rattle.mz_core.specs.contracts.property.UnaryOperation as UnaryOperation
use Rattle.mz_core.specs.contracts.property.PropertyForm as PropertyForm
use Rattle.mz_core.specs.contracts.property.Property as Property
use Rattle.mz_core.specs.contracts.scheme.SchemeLetter as SchemeLetter
use Rattle.mz_core.specs.contracts.scheme.SchemeLetters as SchemeLetters
use Rattle.mz_core.specs.contracts.statements.Statements as Statements
use Rattle.mz_core.specs.contracts.scheme.Scheme as Scheme
use Rattle.mz_core.specs.contracts.set_term.SetTerm as SetTerm
use Rattle.mz_core.specs.contracts.structure.Field as Field
use Rattle.mz_core.specs.contracts.structure.Fields as Fields
use Rattle.mz_core.specs.contracts.notations.Notations as Notations
use Rattle.mz_core.specs.contracts.structure.Structure as Structure
use Rattle.mz_core.specs.contracts.item.Item as Item
use Rattle.mz_core.specs.contracts.items.Items as Items
use Rattle.mz_base.proofs.name.Name.TheSendSync as NameS
use Rattle.mz_base.proofs.names.Names.TheSendSync as NamesS
use Rattle.mz_core.specs.contracts.outcome.Export as Export
use Rattle.mz_axioms.specs.contracts.exports.Exports as Exports
use Rattle.mz_rows.specs.contracts.standing.Standing as Standing
use Rattle.mz_core.proofs.verdict.Verdicts.TheSendSync as VerdictsS
use Rattle.mz_rows.specs.contracts.table.Table as Table
use denote.RattleType.{RattleType}
use Rattle.std.proofs.marker.PhantomData.TheSendSync as PhantomDataS
use Rattle.mz_turns.proofs.turn.Turn.TheSendSync as TurnS
use Rattle.mz_axioms.specs.declared.checker.Semantics.{Ghosts}
use Rattle.mz_workers.specs.declared.board.SharedCorpus.{Ghosts as CorpusGhosts}
use Rattle.mz_workers.specs.contracts.board.Board as Board
use Rattle.mz_turns.specs.contracts.turn.Turn as Turn
use Rattle.std.specs.contracts.vec.Vec as Vec
use Rattle.std.specs.contracts.alloc.Global as Global
use Rattle.std.specs.contracts.impls.GlobalAllocator.TheImpl.{ghosts}
use Rattle.mz_desk.specs.contracts.desk.Desk as Desk

pub Terms-send : IsSend Terms.the_row
Terms-send = search (SymS.the_field_send, TermK.crosses, crosses, sendable) depth 60 fits 20000

pub Terms-sync : IsSync Terms.the_row
Terms-sync = search (SymS.the_field_sync, TermK.crosses, crosses, sendable) depth 60 fits 20000

pub Adjective-send : IsSend Adjective.the_row
Adjective-send = search (SymS.the_field_send, Terms-send, sendable) depth 60 fits 20000

pub Adjective-sync : IsSync Adjective.the_row
Adjective-sync = search (SymS.the_field_sync, Terms-sync, sendable) depth 60 fits 20000

pub Adjective-field-send : IsSend Adjective.the_field.row
Adjective-field-send = search (SymS.the_field_send, Terms-send, sendable) depth 60 fits 20000

pub Adjective-field-sync : IsSync Adjective.the_field.row
Adjective-field-sync = search (SymS.the_field_sync, Terms-sync, sendable) depth 60 fits 20000

pub Adjectives-send : IsSend Adjectives.the_row
Adjectives-send = search (Adjective-send, crosses, sendable) depth 60 fits 20000

pub Adjectives-sync : IsSync Adjectives.the_row
Adjectives-sync = search (Adjective-sync, crosses, sendable) depth 60 fits 20000

pub Radix-send : IsSend Radix.the_row
Radix-send = search (SymS.the_field_send, Terms-send, sendable) depth 60 fits 20000

pub Radix-sync : IsSync Radix.the_row
Radix-sync = search (SymS.the_field_sync, Terms-sync, sendable) depth 60 fits 20000

pub Radix-field-send : IsSend Radix.the_field.row
Radix-field-send = search (SymS.the_field_send, Terms-send, sendable) depth 60 fits 20000

pub Radix-field-sync : IsSync Radix.the_field.row
Radix-field-sync = search (SymS.the_field_sync, Terms-sync, sendable) depth 60 fits 20000

pub SoftType-send : IsSend SoftType.the_row
SoftType-send = search (Adjectives-send, Radix-field-send, sendable) depth 60 fits 20000

pub SoftType-sync : IsSync SoftType.the_row
SoftType-sync = search (Adjectives-sync, Radix-field-sync, sendable) depth 60 fits 20000

pub SoftType-field-send : IsSend SoftType.the_field.row
SoftType-field-send = search (Adjectives-send, Radix-field-send, sendable) depth 60 fits 20000

pub SoftType-field-sync : IsSync SoftType.the_field.row
SoftType-field-sync = search (Adjectives-sync, Radix-field-sync, sendable) depth 60 fits 20000

pub Term-send : IsSend Term.the_row
Term-send = search (SymS.the_field_send, TermK.crosses, crosses, sendable) depth 60 fits 20000

pub Term-sync : IsSync Term.the_row
Term-sync = search (SymS.the_field_sync, TermK.crosses, crosses, sendable) depth 60 fits 20000

pub Statement-send : IsSend Statement.the_row
Statement-send = search (SoftType-field-send, SymS.the_field_send, Term-send, Terms-send, StatementK.crosses, crosses, sendable) depth 60 fits 20000

pub Statement-sync : IsSync Statement.the_row
Statement-sync = search (SoftType-field-sync, SymS.the_field_sync, Term-sync, Terms-sync, StatementK.crosses, crosses, sendable) depth 60 fits 20000

pub FormulaCase-send : IsSend FormulaCase.the_row
FormulaCase-send = search (Statement-send, sendable) depth 60 fits 20000

pub FormulaCase-sync : IsSync FormulaCase.the_row
FormulaCase-sync = search (Statement-sync, sendable) depth 60 fits 20000

pub FormulaCase-field-send : IsSend FormulaCase.the_field.row
FormulaCase-field-send = search (Statement-send, sendable) depth 60 fits 20000

pub FormulaCase-field-sync : IsSync FormulaCase.the_field.row
FormulaCase-field-sync = search (Statement-sync, sendable) depth 60 fits 20000

pub FormulaCases-send : IsSend FormulaCases.the_row
FormulaCases-send = search (FormulaCase-send, crosses, sendable) depth 60 fits 20000

pub FormulaCases-sync : IsSync FormulaCases.the_row
FormulaCases-sync = search (FormulaCase-sync, crosses, sendable) depth 60 fits 20000

pub FormulaDefiniens-send : IsSend FormulaDefiniens.the_row
FormulaDefiniens-send = search (FormulaCases-send, Statement-send, sendable) depth 60 fits 20000

pub FormulaDefiniens-sync : IsSync FormulaDefiniens.the_row
FormulaDefiniens-sync = search (FormulaCases-sync, Statement-sync, sendable) depth 60 fits 20000

pub FormulaDefiniens-field-send : IsSend FormulaDefiniens.the_field.row
FormulaDefiniens-field-send = search (FormulaCases-send, Statement-send, sendable) depth 60 fits 20000

pub FormulaDefiniens-field-sync : IsSync FormulaDefiniens.the_field.row
FormulaDefiniens-field-sync = search (FormulaCases-sync, Statement-sync, sendable) depth 60 fits 20000

pub SoftTypes-send : IsSend SoftTypes.the_row
SoftTypes-send = search (SoftType-send, crosses, sendable) depth 60 fits 20000

pub SoftTypes-sync : IsSync SoftTypes.the_row
SoftTypes-sync = search (SoftType-sync, crosses, sendable) depth 60 fits 20000

pub Pattern-send : IsSend Pattern.the_row
Pattern-send = search (KindS.the_field_send, NumbersS.the_send, SoftTypes-send, TextS.the_send, sendable) depth 60 fits 20000

pub Pattern-sync : IsSync Pattern.the_row
Pattern-sync = search (KindS.the_field_sync, NumbersS.the_sync, SoftTypes-sync, TextS.the_sync, sendable) depth 60 fits 20000

pub Pattern-field-send : IsSend Pattern.the_field.row
Pattern-field-send = search (KindS.the_field_send, NumbersS.the_send, SoftTypes-send, TextS.the_send, sendable) depth 60 fits 20000

pub Pattern-field-sync : IsSync Pattern.the_field.row
Pattern-field-sync = search (KindS.the_field_sync, NumbersS.the_sync, SoftTypes-sync, TextS.the_sync, sendable) depth 60 fits 20000

pub AtomDefinition-send : IsSend AtomDefinition.the_row
AtomDefinition-send = search (FormulaDefiniens-field-send, Pattern-field-send, SymS.the_field_send, sendable) depth 60 fits 20000

pub AtomDefinition-sync : IsSync AtomDefinition.the_row
AtomDefinition-sync = search (FormulaDefiniens-field-sync, Pattern-field-sync, SymS.the_field_sync, sendable) depth 60 fits 20000

pub AtomDefinition-field-send : IsSend AtomDefinition.the_field.row
AtomDefinition-field-send = search (FormulaDefiniens-field-send, Pattern-field-send, SymS.the_field_send, sendable) depth 60 fits 20000

pub AtomDefinition-field-sync : IsSync AtomDefinition.the_field.row
AtomDefinition-field-sync = search (FormulaDefiniens-field-sync, Pattern-field-sync, SymS.the_field_sync, sendable) depth 60 fits 20000

pub Literal-send : IsSend Literal.the_row
Literal-send = search (SymS.the_field_send, Term-send, Terms-send, sendable) depth 60 fits 20000

pub Literal-sync : IsSync Literal.the_row
Literal-sync = search (SymS.the_field_sync, Term-sync, Terms-sync, sendable) depth 60 fits 20000

pub Literal-field-send : IsSend Literal.the_field.row
Literal-field-send = search (SymS.the_field_send, Term-send, Terms-send, sendable) depth 60 fits 20000

pub Literal-field-sync : IsSync Literal.the_field.row
Literal-field-sync = search (SymS.the_field_sync, Term-sync, Terms-sync, sendable) depth 60 fits 20000

pub AtomRedefinition-send : IsSend AtomRedefinition.the_row
AtomRedefinition-send = search (FormulaDefiniens-send, Literal-field-send, Pattern-field-send, sendable) depth 60 fits 20000

pub AtomRedefinition-sync : IsSync AtomRedefinition.the_row
AtomRedefinition-sync = search (FormulaDefiniens-sync, Literal-field-sync, Pattern-field-sync, sendable) depth 60 fits 20000

pub AtomRedefinition-field-send : IsSend AtomRedefinition.the_field.row
AtomRedefinition-field-send = search (FormulaDefiniens-send, Literal-field-send, Pattern-field-send, sendable) depth 60 fits 20000

pub AtomRedefinition-field-sync : IsSync AtomRedefinition.the_field.row
AtomRedefinition-field-sync = search (FormulaDefiniens-sync, Literal-field-sync, Pattern-field-sync, sendable) depth 60 fits 20000

pub AttributeDefinition-send : IsSend AttributeDefinition.the_row
AttributeDefinition-send = search (FormulaDefiniens-field-send, Pattern-field-send, SymS.the_field_send, sendable) depth 60 fits 20000

pub AttributeDefinition-sync : IsSync AttributeDefinition.the_row
AttributeDefinition-sync = search (FormulaDefiniens-field-sync, Pattern-field-sync, SymS.the_field_sync, sendable) depth 60 fits 20000

pub AttributeDefinition-field-send : IsSend AttributeDefinition.the_field.row
AttributeDefinition-field-send = search (FormulaDefiniens-field-send, Pattern-field-send, SymS.the_field_send, sendable) depth 60 fits 20000

pub AttributeDefinition-field-sync : IsSync AttributeDefinition.the_field.row
AttributeDefinition-field-sync = search (FormulaDefiniens-field-sync, Pattern-field-sync, SymS.the_field_sync, sendable) depth 60 fits 20000

pub Choice-send : IsSend Choice.the_row
Choice-send = search (SoftType-field-send, SoftTypes-send, SymS.the_field_send, sendable) depth 60 fits 20000

pub Choice-sync : IsSync Choice.the_row
Choice-sync = search (SoftType-field-sync, SoftTypes-sync, SymS.the_field_sync, sendable) depth 60 fits 20000

pub Choice-field-send : IsSend Choice.the_field.row
Choice-field-send = search (SoftType-field-send, SoftTypes-send, SymS.the_field_send, sendable) depth 60 fits 20000

pub Choice-field-sync : IsSync Choice.the_field.row
Choice-field-sync = search (SoftType-field-sync, SoftTypes-sync, SymS.the_field_sync, sendable) depth 60 fits 20000

pub ConditionalRegistration-send : IsSend ConditionalRegistration.the_row
ConditionalRegistration-send = search (Adjectives-send, SoftType-field-send, SoftTypes-send, sendable) depth 60 fits 20000

pub ConditionalRegistration-sync : IsSync ConditionalRegistration.the_row
ConditionalRegistration-sync = search (Adjectives-sync, SoftType-field-sync, SoftTypes-sync, sendable) depth 60 fits 20000

pub ConditionalRegistration-field-send : IsSend ConditionalRegistration.the_field.row
ConditionalRegistration-field-send = search (Adjectives-send, SoftType-field-send, SoftTypes-send, sendable) depth 60 fits 20000

pub ConditionalRegistration-field-sync : IsSync ConditionalRegistration.the_field.row
ConditionalRegistration-field-sync = search (Adjectives-sync, SoftType-field-sync, SoftTypes-sync, sendable) depth 60 fits 20000

pub TermCase-send : IsSend TermCase.the_row
TermCase-send = search (Statement-send, Term-send, sendable) depth 60 fits 20000

pub TermCase-sync : IsSync TermCase.the_row
TermCase-sync = search (Statement-sync, Term-sync, sendable) depth 60 fits 20000

pub TermCase-field-send : IsSend TermCase.the_field.row
TermCase-field-send = search (Statement-send, Term-send, sendable) depth 60 fits 20000

pub TermCase-field-sync : IsSync TermCase.the_field.row
TermCase-field-sync = search (Statement-sync, Term-sync, sendable) depth 60 fits 20000

pub TermCases-send : IsSend TermCases.the_row
TermCases-send = search (TermCase-send, crosses, sendable) depth 60 fits 20000

pub TermCases-sync : IsSync TermCases.the_row
TermCases-sync = search (TermCase-sync, crosses, sendable) depth 60 fits 20000

pub TermDefiniens-send : IsSend TermDefiniens.the_row
TermDefiniens-send = search (Term-send, TermCases-send, sendable) depth 60 fits 20000

pub TermDefiniens-sync : IsSync TermDefiniens.the_row
TermDefiniens-sync = search (Term-sync, TermCases-sync, sendable) depth 60 fits 20000

pub TermDefiniens-field-send : IsSend TermDefiniens.the_field.row
TermDefiniens-field-send = search (Term-send, TermCases-send, sendable) depth 60 fits 20000

pub TermDefiniens-field-sync : IsSync TermDefiniens.the_field.row
TermDefiniens-field-sync = search (Term-sync, TermCases-sync, sendable) depth 60 fits 20000

pub EqualsDefinition-send : IsSend EqualsDefinition.the_row
EqualsDefinition-send = search (Pattern-field-send, SoftType-field-send, SymS.the_field_send, TermDefiniens-field-send, sendable) depth 60 fits 20000

pub EqualsDefinition-sync : IsSync EqualsDefinition.the_row
EqualsDefinition-sync = search (Pattern-field-sync, SoftType-field-sync, SymS.the_field_sync, TermDefiniens-field-sync, sendable) depth 60 fits 20000

pub EqualsDefinition-field-send : IsSend EqualsDefinition.the_field.row
EqualsDefinition-field-send = search (Pattern-field-send, SoftType-field-send, SymS.the_field_send, TermDefiniens-field-send, sendable) depth 60 fits 20000

pub EqualsDefinition-field-sync : IsSync EqualsDefinition.the_field.row
EqualsDefinition-field-sync = search (Pattern-field-sync, SoftType-field-sync, SymS.the_field_sync, TermDefiniens-field-sync, sendable) depth 60 fits 20000

pub EquationRegistration-send : IsSend EquationRegistration.the_row
EquationRegistration-send = search (SoftTypes-send, Term-send, sendable) depth 60 fits 20000

pub EquationRegistration-sync : IsSync EquationRegistration.the_row
EquationRegistration-sync = search (SoftTypes-sync, Term-sync, sendable) depth 60 fits 20000

pub EquationRegistration-field-send : IsSend EquationRegistration.the_field.row
EquationRegistration-field-send = search (SoftTypes-send, Term-send, sendable) depth 60 fits 20000

pub EquationRegistration-field-sync : IsSync EquationRegistration.the_field.row
EquationRegistration-field-sync = search (SoftTypes-sync, Term-sync, sendable) depth 60 fits 20000

pub ExistentialRegistration-send : IsSend ExistentialRegistration.the_row
ExistentialRegistration-send = search (Adjectives-send, SoftType-field-send, SoftTypes-send, sendable) depth 60 fits 20000

pub ExistentialRegistration-sync : IsSync ExistentialRegistration.the_row
ExistentialRegistration-sync = search (Adjectives-sync, SoftType-field-sync, SoftTypes-sync, sendable) depth 60 fits 20000

pub ExistentialRegistration-field-send : IsSend ExistentialRegistration.the_field.row
ExistentialRegistration-field-send = search (Adjectives-send, SoftType-field-send, SoftTypes-send, sendable) depth 60 fits 20000

pub ExistentialRegistration-field-sync : IsSync ExistentialRegistration.the_field.row
ExistentialRegistration-field-sync = search (Adjectives-sync, SoftType-field-sync, SoftTypes-sync, sendable) depth 60 fits 20000

pub FunctorMeaning-send : IsSend FunctorMeaning.the_row
FunctorMeaning-send = search (FormulaDefiniens-field-send, TermDefiniens-field-send, sendable) depth 60 fits 20000

pub FunctorMeaning-sync : IsSync FunctorMeaning.the_row
FunctorMeaning-sync = search (FormulaDefiniens-field-sync, TermDefiniens-field-sync, sendable) depth 60 fits 20000

pub FunctorMeaning-field-send : IsSend FunctorMeaning.the_field.row
FunctorMeaning-field-send = search (FormulaDefiniens-field-send, TermDefiniens-field-send, sendable) depth 60 fits 20000

pub FunctorMeaning-field-sync : IsSync FunctorMeaning.the_field.row
FunctorMeaning-field-sync = search (FormulaDefiniens-field-sync, TermDefiniens-field-sync, sendable) depth 60 fits 20000

pub FunctorRedefinition-send : IsSend FunctorRedefinition.the_row
FunctorRedefinition-send = search (FunctorMeaning-send, Pattern-field-send, SoftType-send, SoftType-field-send, Term-send, sendable) depth 60 fits 20000

pub FunctorRedefinition-sync : IsSync FunctorRedefinition.the_row
FunctorRedefinition-sync = search (FunctorMeaning-sync, Pattern-field-sync, SoftType-sync, SoftType-field-sync, Term-sync, sendable) depth 60 fits 20000

pub FunctorRedefinition-field-send : IsSend FunctorRedefinition.the_field.row
FunctorRedefinition-field-send = search (FunctorMeaning-send, Pattern-field-send, SoftType-send, SoftType-field-send, Term-send, sendable) depth 60 fits 20000

pub FunctorRedefinition-field-sync : IsSync FunctorRedefinition.the_field.row
FunctorRedefinition-field-sync = search (FunctorMeaning-sync, Pattern-field-sync, SoftType-sync, SoftType-field-sync, Term-sync, sendable) depth 60 fits 20000

pub FunctorialRegistration-send : IsSend FunctorialRegistration.the_row
FunctorialRegistration-send = search (Adjectives-send, SoftType-send, SoftTypes-send, Term-send, sendable) depth 60 fits 20000

pub FunctorialRegistration-sync : IsSync FunctorialRegistration.the_row
FunctorialRegistration-sync = search (Adjectives-sync, SoftType-sync, SoftTypes-sync, Term-sync, sendable) depth 60 fits 20000

pub FunctorialRegistration-field-send : IsSend FunctorialRegistration.the_field.row
FunctorialRegistration-field-send = search (Adjectives-send, SoftType-send, SoftTypes-send, Term-send, sendable) depth 60 fits 20000

pub FunctorialRegistration-field-sync : IsSync FunctorialRegistration.the_field.row
FunctorialRegistration-field-sync = search (Adjectives-sync, SoftType-sync, SoftTypes-sync, Term-sync, sendable) depth 60 fits 20000

pub MeansDefinition-send : IsSend MeansDefinition.the_row
MeansDefinition-send = search (FormulaDefiniens-field-send, Pattern-field-send, SoftType-field-send, SymS.the_field_send, sendable) depth 60 fits 20000

pub MeansDefinition-sync : IsSync MeansDefinition.the_row
MeansDefinition-sync = search (FormulaDefiniens-field-sync, Pattern-field-sync, SoftType-field-sync, SymS.the_field_sync, sendable) depth 60 fits 20000

pub MeansDefinition-field-send : IsSend MeansDefinition.the_field.row
MeansDefinition-field-send = search (FormulaDefiniens-field-send, Pattern-field-send, SoftType-field-send, SymS.the_field_send, sendable) depth 60 fits 20000

pub MeansDefinition-field-sync : IsSync MeansDefinition.the_field.row
MeansDefinition-field-sync = search (FormulaDefiniens-field-sync, Pattern-field-sync, SoftType-field-sync, SymS.the_field_sync, sendable) depth 60 fits 20000

pub ModeRedefinition-send : IsSend ModeRedefinition.the_row
ModeRedefinition-send = search (FormulaDefiniens-send, Pattern-field-send, SoftType-send, SoftType-field-send, sendable) depth 60 fits 20000

pub ModeRedefinition-sync : IsSync ModeRedefinition.the_row
ModeRedefinition-sync = search (FormulaDefiniens-sync, Pattern-field-sync, SoftType-sync, SoftType-field-sync, sendable) depth 60 fits 20000

pub ModeRedefinition-field-send : IsSend ModeRedefinition.the_field.row
ModeRedefinition-field-send = search (FormulaDefiniens-send, Pattern-field-send, SoftType-send, SoftType-field-send, sendable) depth 60 fits 20000

pub ModeRedefinition-field-sync : IsSync ModeRedefinition.the_field.row
ModeRedefinition-field-sync = search (FormulaDefiniens-sync, Pattern-field-sync, SoftType-sync, SoftType-field-sync, sendable) depth 60 fits 20000

pub Meaning-send : IsSend Meaning.the_row
Meaning-send = search (Literal-field-send, SoftType-field-send, Term-send, sendable) depth 60 fits 20000

pub Meaning-sync : IsSync Meaning.the_row
Meaning-sync = search (Literal-field-sync, SoftType-field-sync, Term-sync, sendable) depth 60 fits 20000

pub Meaning-field-send : IsSend Meaning.the_field.row
Meaning-field-send = search (Literal-field-send, SoftType-field-send, Term-send, sendable) depth 60 fits 20000

pub Meaning-field-sync : IsSync Meaning.the_field.row
Meaning-field-sync = search (Literal-field-sync, SoftType-field-sync, Term-sync, sendable) depth 60 fits 20000

pub Notation-send : IsSend Notation.the_row
Notation-send = search (Meaning-field-send, Pattern-field-send, sendable) depth 60 fits 20000

pub Notation-sync : IsSync Notation.the_row
Notation-sync = search (Meaning-field-sync, Pattern-field-sync, sendable) depth 60 fits 20000

pub Notation-field-send : IsSend Notation.the_field.row
Notation-field-send = search (Meaning-field-send, Pattern-field-send, sendable) depth 60 fits 20000

pub Notation-field-sync : IsSync Notation.the_field.row
Notation-field-sync = search (Meaning-field-sync, Pattern-field-sync, sendable) depth 60 fits 20000

pub Operation-send : IsSend Operation.the_row
Operation-send = search (Term-send, sendable) depth 60 fits 20000

pub Operation-sync : IsSync Operation.the_row
Operation-sync = search (Term-sync, sendable) depth 60 fits 20000

pub Operation-field-send : IsSend Operation.the_field.row
Operation-field-send = search (Term-send, sendable) depth 60 fits 20000

pub Operation-field-sync : IsSync Operation.the_field.row
Operation-field-sync = search (Term-sync, sendable) depth 60 fits 20000

pub Relation-send : IsSend Relation.the_row
Relation-send = search (Literal-field-send, sendable) depth 60 fits 20000

pub Relation-sync : IsSync Relation.the_row
Relation-sync = search (Literal-field-sync, sendable) depth 60 fits 20000

pub Relation-field-send : IsSend Relation.the_field.row
Relation-field-send = search (Literal-field-send, sendable) depth 60 fits 20000

pub Relation-field-sync : IsSync Relation.the_field.row
Relation-field-sync = search (Literal-field-sync, sendable) depth 60 fits 20000

pub UnaryOperation-send : IsSend UnaryOperation.the_row
UnaryOperation-send = search (Term-send, sendable) depth 60 fits 20000

pub UnaryOperation-sync : IsSync UnaryOperation.the_row
UnaryOperation-sync = search (Term-sync, sendable) depth 60 fits 20000

pub UnaryOperation-field-send : IsSend UnaryOperation.the_field.row
UnaryOperation-field-send = search (Term-send, sendable) depth 60 fits 20000

pub UnaryOperation-field-sync : IsSync UnaryOperation.the_field.row
UnaryOperation-field-sync = search (Term-sync, sendable) depth 60 fits 20000

pub PropertyForm-send : IsSend PropertyForm.the_row
PropertyForm-send = search (Operation-field-send, Relation-field-send, SymS.the_field_send, UnaryOperation-field-send, sendable) depth 60 fits 20000

pub PropertyForm-sync : IsSync PropertyForm.the_row
PropertyForm-sync = search (Operation-field-sync, Relation-field-sync, SymS.the_field_sync, UnaryOperation-field-sync, sendable) depth 60 fits 20000

pub PropertyForm-field-send : IsSend PropertyForm.the_field.row
PropertyForm-field-send = search (Operation-field-send, Relation-field-send, SymS.the_field_send, UnaryOperation-field-send, sendable) depth 60 fits 20000

pub PropertyForm-field-sync : IsSync PropertyForm.the_field.row
PropertyForm-field-sync = search (Operation-field-sync, Relation-field-sync, SymS.the_field_sync, UnaryOperation-field-sync, sendable) depth 60 fits 20000

pub Property-send : IsSend Property.the_row
Property-send = search (PropertyForm-field-send, SoftTypes-send, sendable) depth 60 fits 20000

pub Property-sync : IsSync Property.the_row
Property-sync = search (PropertyForm-field-sync, SoftTypes-sync, sendable) depth 60 fits 20000

pub Property-field-send : IsSend Property.the_field.row
Property-field-send = search (PropertyForm-field-send, SoftTypes-send, sendable) depth 60 fits 20000

pub Property-field-sync : IsSync Property.the_field.row
Property-field-sync = search (PropertyForm-field-sync, SoftTypes-sync, sendable) depth 60 fits 20000

pub SchemeLetter-send : IsSend SchemeLetter.the_row
SchemeLetter-send = search (SoftType-field-send, SoftTypes-send, SymS.the_field_send, sendable) depth 60 fits 20000

pub SchemeLetter-sync : IsSync SchemeLetter.the_row
SchemeLetter-sync = search (SoftType-field-sync, SoftTypes-sync, SymS.the_field_sync, sendable) depth 60 fits 20000

pub SchemeLetter-field-send : IsSend SchemeLetter.the_field.row
SchemeLetter-field-send = search (SoftType-field-send, SoftTypes-send, SymS.the_field_send, sendable) depth 60 fits 20000

pub SchemeLetter-field-sync : IsSync SchemeLetter.the_field.row
SchemeLetter-field-sync = search (SoftType-field-sync, SoftTypes-sync, SymS.the_field_sync, sendable) depth 60 fits 20000

pub SchemeLetters-send : IsSend SchemeLetters.the_row
SchemeLetters-send = search (SchemeLetter-send, crosses, sendable) depth 60 fits 20000

pub SchemeLetters-sync : IsSync SchemeLetters.the_row
SchemeLetters-sync = search (SchemeLetter-sync, crosses, sendable) depth 60 fits 20000

pub Statements-send : IsSend Statements.the_row
Statements-send = search (Statement-send, crosses, sendable) depth 60 fits 20000

pub Statements-sync : IsSync Statements.the_row
Statements-sync = search (Statement-sync, crosses, sendable) depth 60 fits 20000

pub Scheme-send : IsSend Scheme.the_row
Scheme-send = search (SchemeLetters-send, Statement-send, Statements-send, sendable) depth 60 fits 20000

pub Scheme-sync : IsSync Scheme.the_row
Scheme-sync = search (SchemeLetters-sync, Statement-sync, Statements-sync, sendable) depth 60 fits 20000

pub Scheme-field-send : IsSend Scheme.the_field.row
Scheme-field-send = search (SchemeLetters-send, Statement-send, Statements-send, sendable) depth 60 fits 20000

pub Scheme-field-sync : IsSync Scheme.the_field.row
Scheme-field-sync = search (SchemeLetters-sync, Statement-sync, Statements-sync, sendable) depth 60 fits 20000

pub SetTerm-send : IsSend SetTerm.the_row
SetTerm-send = search (SoftType-field-send, SoftTypes-send, Statement-send, SymS.the_field_send, Term-send, sendable) depth 60 fits 20000

pub SetTerm-sync : IsSync SetTerm.the_row
SetTerm-sync = search (SoftType-field-sync, SoftTypes-sync, Statement-sync, SymS.the_field_sync, Term-sync, sendable) depth 60 fits 20000

pub SetTerm-field-send : IsSend SetTerm.the_field.row
SetTerm-field-send = search (SoftType-field-send, SoftTypes-send, Statement-send, SymS.the_field_send, Term-send, sendable) depth 60 fits 20000

pub SetTerm-field-sync : IsSync SetTerm.the_field.row
SetTerm-field-sync = search (SoftType-field-sync, SoftTypes-sync, Statement-sync, SymS.the_field_sync, Term-sync, sendable) depth 60 fits 20000

pub Field-send : IsSend Field.the_row
Field-send = search (SoftType-field-send, SymS.the_field_send, sendable) depth 60 fits 20000

pub Field-sync : IsSync Field.the_row
Field-sync = search (SoftType-field-sync, SymS.the_field_sync, sendable) depth 60 fits 20000

pub Field-field-send : IsSend Field.the_field.row
Field-field-send = search (SoftType-field-send, SymS.the_field_send, sendable) depth 60 fits 20000

pub Field-field-sync : IsSync Field.the_field.row
Field-field-sync = search (SoftType-field-sync, SymS.the_field_sync, sendable) depth 60 fits 20000

pub Fields-send : IsSend Fields.the_row
Fields-send = search (Field-send, crosses, sendable) depth 60 fits 20000

pub Fields-sync : IsSync Fields.the_row
Fields-sync = search (Field-sync, crosses, sendable) depth 60 fits 20000

pub Notations-send : IsSend Notations.the_row
Notations-send = search (Notation-send, crosses, sendable) depth 60 fits 20000

pub Notations-sync : IsSync Notations.the_row
Notations-sync = search (Notation-sync, crosses, sendable) depth 60 fits 20000

pub Structure-send : IsSend Structure.the_row
Structure-send = search (Fields-send, Notations-send, SoftTypes-send, SymS.the_field_send, sendable) depth 60 fits 20000

pub Structure-sync : IsSync Structure.the_row
Structure-sync = search (Fields-sync, Notations-sync, SoftTypes-sync, SymS.the_field_sync, sendable) depth 60 fits 20000

pub Structure-field-send : IsSend Structure.the_field.row
Structure-field-send = search (Fields-send, Notations-send, SoftTypes-send, SymS.the_field_send, sendable) depth 60 fits 20000

pub Structure-field-sync : IsSync Structure.the_field.row
Structure-field-sync = search (Fields-sync, Notations-sync, SoftTypes-sync, SymS.the_field_sync, sendable) depth 60 fits 20000

pub Item-send : IsSend Item.the_row
Item-send = search (AtomDefinition-field-send, AtomRedefinition-field-send, AttributeDefinition-field-send, Choice-field-send, ConditionalRegistration-field-send, EqualsDefinition-field-send, EquationRegistration-field-send, ExistentialRegistration-field-send, FunctorRedefinition-field-send, FunctorialRegistration-field-send, MeansDefinition-field-send, ModeRedefinition-field-send, Notation-field-send, Property-field-send, Scheme-field-send, SetTerm-field-send, Statement-send, Structure-field-send, sendable) depth 60 fits 20000

pub Item-sync : IsSync Item.the_row
Item-sync = search (AtomDefinition-field-sync, AtomRedefinition-field-sync, AttributeDefinition-field-sync, Choice-field-sync, ConditionalRegistration-field-sync, EqualsDefinition-field-sync, EquationRegistration-field-sync, ExistentialRegistration-field-sync, FunctorRedefinition-field-sync, FunctorialRegistration-field-sync, MeansDefinition-field-sync, ModeRedefinition-field-sync, Notation-field-sync, Property-field-sync, Scheme-field-sync, SetTerm-field-sync, Statement-sync, Structure-field-sync, sendable) depth 60 fits 20000

pub Item-field-send : IsSend Item.the_field.row
Item-field-send = search (AtomDefinition-field-send, AtomRedefinition-field-send, AttributeDefinition-field-send, Choice-field-send, ConditionalRegistration-field-send, EqualsDefinition-field-send, EquationRegistration-field-send, ExistentialRegistration-field-send, FunctorRedefinition-field-send, FunctorialRegistration-field-send, MeansDefinition-field-send, ModeRedefinition-field-send, Notation-field-send, Property-field-send, Scheme-field-send, SetTerm-field-send, Statement-send, Structure-field-send, sendable) depth 60 fits 20000

pub Item-field-sync : IsSync Item.the_field.row
Item-field-sync = search (AtomDefinition-field-sync, AtomRedefinition-field-sync, AttributeDefinition-field-sync, Choice-field-sync, ConditionalRegistration-field-sync, EqualsDefinition-field-sync, EquationRegistration-field-sync, ExistentialRegistration-field-sync, FunctorRedefinition-field-sync, FunctorialRegistration-field-sync, MeansDefinition-field-sync, ModeRedefinition-field-sync, Notation-field-sync, Property-field-sync, Scheme-field-sync, SetTerm-field-sync, Statement-sync, Structure-field-sync, sendable) depth 60 fits 20000

pub Items-send : IsSend Items.the_row
Items-send = search (Item-send, crosses, sendable) depth 60 fits 20000

pub Items-sync : IsSync Items.the_row
Items-sync = search (Item-sync, crosses, sendable) depth 60 fits 20000

pub Export-send : IsSend Export.the_row
Export-send = search (Items-send, NameS.the_field_send, NamesS.the_send, Notations-send, sendable) depth 60 fits 20000

pub Export-sync : IsSync Export.the_row
Export-sync = search (Items-sync, NameS.the_field_sync, NamesS.the_sync, Notations-sync, sendable) depth 60 fits 20000

pub Export-field-send : IsSend Export.the_field.row
Export-field-send = search (Items-send, NameS.the_field_send, NamesS.the_send, Notations-send, sendable) depth 60 fits 20000

pub Export-field-sync : IsSync Export.the_field.row
Export-field-sync = search (Items-sync, NameS.the_field_sync, NamesS.the_sync, Notations-sync, sendable) depth 60 fits 20000

pub Exports-send : IsSend Exports.the_row
Exports-send = search (Export-send, Export-sync, crosses, sendable) depth 60 fits 20000

pub Exports-sync : IsSync Exports.the_row
Exports-sync = search (Export-send, Export-sync, crosses, sendable) depth 60 fits 20000

pub Standing-send : IsSend Standing.the_row
Standing-send = search (Export-send, Export-sync, NameS.the_field_send, crosses, sendable) depth 60 fits 20000

pub Standing-sync : IsSync Standing.the_row
Standing-sync = search (Export-send, Export-sync, NameS.the_field_sync, crosses, sendable) depth 60 fits 20000

pub Standing-field-send : IsSend Standing.the_field.row
Standing-field-send = search (Export-send, Export-sync, NameS.the_field_send, crosses, sendable) depth 60 fits 20000

pub Standing-field-sync : IsSync Standing.the_field.row
Standing-field-sync = search (Export-send, Export-sync, NameS.the_field_sync, crosses, sendable) depth 60 fits 20000

pub Table-send : IsSend Table.the_row
Table-send = search (CorpusS.the_send, CorpusS.the_sync, Exports-send, Standing-send, VerdictsS.the_send, crosses, sendable) depth 60 fits 20000

pub Table-sync : IsSync Table.the_row
Table-sync = search (CorpusS.the_send, CorpusS.the_sync, Exports-sync, Standing-sync, VerdictsS.the_sync, crosses, sendable) depth 60 fits 20000

pub turns-send : IsSend (Vec.the_row Turn.the_row Global.the_row ghosts)
turns-send = search (TurnS.the_send, crosses, sendable) depth 60 fits 20000

pub Desk-send : (C : RattleType) (g : Ghosts C.Denot) → IsSend C → IsSend (Desk.the_row C g)
Desk-send C g s = record { owned = λ d vs x. ((λ vss. (tt, (Table-send.owned x.0.table vss.0, (turns-send.owned x.0.turns vss.1.0, ((PhantomDataS.the_send C).owned x.0.of vss.1.1.0, tt))))), tt); leaving = λ k d w. tt }

pub Board-send : (C K : RattleType) (g : Ghosts C.Denot) (h : CorpusGhosts K.Denot) → IsSend C → IsSend K → IsSend (Board.the_row C K g h)
Board-send C K g h s t = record { owned = λ d vs x. ((λ vss. (tt, ((Desk-send C g s).owned x.0.desk vss.0, ((PhantomDataS.the_send K).owned x.0.of vss.1.0, tt)))), tt); leaving = λ k d w. tt }
