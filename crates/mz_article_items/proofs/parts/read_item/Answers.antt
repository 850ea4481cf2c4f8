use Rattle.mz_article_items.proofs.KindLemmas.{told_reserve_item, told_theorem_item, told_statement_item, told_scheme_item, told_definition_item, told_registration_item, told_notation_item}
use Rattle.mz_article_items.proofs.parts.read_item.Goals as goal

pub returns-in-Reserve : goal.returns-in-Reserve
returns-in-Reserve g c =
    told_reserve_item c.args.s.now c.read_reserve.new.s c.args.os.now c.args.x.now c.in-Reserve.t c.read_reserve.result c.as_of_item.result c.in-Reserve.is c.read_reserve.ensures c.as_of_item.ensures

pub returns-in-Theorem : goal.returns-in-Theorem
returns-in-Theorem g c =
    told_theorem_item c.args.s.now c.read_theorem.new.s c.args.os.now c.read_theorem.new.os c.args.x.now c.in-Theorem.t c.read_theorem.result c.as_of_item-in-Theorem.result c.in-Theorem.is c.read_theorem.ensures c.as_of_item-in-Theorem.ensures

pub returns-in-Statement : goal.returns-in-Statement
returns-in-Statement g c =
    told_statement_item c.args.s.now c.read_statement.new.s c.args.os.now c.read_statement.new.os c.args.x.now c.in-Statement.t c.read_statement.result c.as_of_item-in-Statement.result c.in-Statement.is c.read_statement.ensures c.as_of_item-in-Statement.ensures

pub returns-in-Scheme : goal.returns-in-Scheme
returns-in-Scheme g c = told_scheme_item c.args.s.now c.scheme.new.s c.args.os.now c.scheme.new.os c.args.x.now c.in-Scheme.t c.scheme.result c.in-Scheme.is c.scheme.ensures

pub returns-in-Definition : goal.returns-in-Definition
returns-in-Definition g c =
    told_definition_item c.args.s.now c.definition.new.s c.args.os.now c.definition.new.os c.args.x.now c.in-Definition.t c.definition.result c.in-Definition.is c.definition.ensures

pub returns-in-Notation : goal.returns-in-Notation
returns-in-Notation g c = told_notation_item c.args.s.now c.notation.new.s c.args.os.now c.args.x.now c.in-Notation.t c.notation.result c.in-Notation.is c.notation.ensures

pub returns-in-Registration : goal.returns-in-Registration
returns-in-Registration g c =
    told_registration_item c.args.s.now c.registration.new.s c.args.os.now c.registration.new.os c.args.x.now c.in-Registration.t c.registration.result c.in-Registration.is c.registration.ensures
