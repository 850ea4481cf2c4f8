-- What a scheme puts aside while it is read and justified.
use Rattle.std.specs.Prelude.{[], length, take}
use Rattle.mz_context.specs.declared.context.Context.{Context}
use Rattle.mz_letters.specs.declared.aside.Aside.{Aside}

-- without letters in force
abbrev pub without_letters : Context → Context
without_letters c = record c { letters = [] }

-- how many symbols there were, and labelled statements, the private functors and predicates, and the letters in force
abbrev pub aside_of : Context → Aside
aside_of c = record { counts = c.counts; labelled = length c.labelled; functors = c.functors; predicates = c.predicates; letters = c.letters }

abbrev pub put_back : Context → Aside → Context
put_back c a = record c { counts = a.counts; labelled = take a.labelled c.labelled; functors = a.functors; predicates = a.predicates; letters = a.letters }
