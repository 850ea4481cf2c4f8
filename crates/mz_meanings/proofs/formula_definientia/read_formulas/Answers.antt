use Rattle.mz_resolve.specs.Calls.{FormulaRead}
use Rattle.mz_tree_heading.specs.declared.meaning.CasesTree.TheVariants as tree
use Rattle.mz_meanings.specs.Definientia.{formula_shape, body_context}
use Rattle.mz_meanings.proofs.DefiniensLemmas.{told_tree}
use Rattle.mz_meanings.proofs.formula_definientia.read_formulas.Goals as goal

pub returns-in-Plain-clause-reads : goal.returns-in-Plain-clause-reads
returns-in-Plain-clause-reads c = told_tree formula_shape (FormulaRead c.args.env.now (body_context c.args.ctx.now c.args.it.now) c.args.least) (FormulaRead c.args.env.now c.args.ctx.now c.args.least) c.args.left.now c.read_alone.new.left c.args.t.now (tree.Plain c.in-Plain.f) c.read_alone.result c.in-Plain.is c.read_alone.ensures.reads

pub returns-in-Cases-clause-reads : goal.returns-in-Cases-clause-reads
returns-in-Cases-clause-reads c = told_tree formula_shape (FormulaRead c.args.env.now (body_context c.args.ctx.now c.args.it.now) c.args.least) (FormulaRead c.args.env.now c.args.ctx.now c.args.least) c.args.left.now c.read_by_cases.new.left c.args.t.now (tree.Cases c.in-Cases.cases c.in-Cases.otherwise) c.read_by_cases.result c.in-Cases.is c.read_by_cases.ensures.reads
