use Rattle.mz_scheme.proofs.HeadingLemmas.{told_letters_refused, told_conclusion_refused, told_premises_refused, told_heading}
use Rattle.mz_scheme.proofs.heading.take_heading.Goals as goal

pub returns-in-Err : goal.returns-in-Err
returns-in-Err c = told_letters_refused _ _ _ _ _ _ _ _ _ _ _ c.in_ok-least.ensures c.take_letters.ensures c.in-Err.is

pub returns-in-Err-read_conclusion : goal.returns-in-Err-read_conclusion
returns-in-Err-read_conclusion c = told_conclusion_refused _ _ _ _ _ _ _ _ _ _ _ _ _ _ _ c.in_ok-least.ensures c.take_letters.ensures c.in-Ok.is c.read_conclusion.ensures.reads c.in-Err-read_conclusion.is c.of_reading.ensures

pub returns-in-Err-read_premises : goal.returns-in-Err-read_premises
returns-in-Err-read_premises c = told_premises_refused _ _ _ _ _ _ _ _ _ _ _ _ _ _ _ _ _ _ _ c.in_ok-least.ensures c.take_letters.ensures c.in-Ok.is c.read_conclusion.ensures.reads c.in-Ok-read_conclusion.is c.read_conclusion.ensures.same c.read_premises.ensures.reads c.in-Err-read_premises.is c.of_reading-in-Err-read_premises.ensures

pub returns-in-Ok-read_premises : goal.returns-in-Ok-read_premises
returns-in-Ok-read_premises c = told_heading _ _ _ _ _ _ _ _ _ _ _ _ _ _ _ _ _ c.in_ok-least.ensures c.take_letters.ensures c.in-Ok.is c.read_conclusion.ensures.reads c.in-Ok-read_conclusion.is c.read_conclusion.ensures.same c.read_premises.ensures.reads c.in-Ok-read_premises.is c.read_premises.ensures.same
