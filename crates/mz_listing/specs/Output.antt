-- What a run writes.
use Rattle.std.specs.Prelude.{ℕ, Bool, if◌then◌else◌, List, [], ◌++◌}
use Rattle.mz_core.specs.declared.outcome.Export.{Export}
use Rattle.mz_core.specs.declared.verdict.Entry.{Entry}
use Rattle.mz_corpus.specs.declared.ordering.Ordering.{Ordering}
use Rattle.mz_report.specs.Report.{report_text, last_line}
use Rattle.mz_listing.specs.Listing.{listing_text}

-- the report, and then the listing where it is asked for; for made articles the report's last line alone
abbrev pub output_text : Bool → Bool → Ordering → List Entry → List Export → List ℕ
output_text made list o entries exports = if made then last_line o entries else report_text o entries ++ (if list then listing_text o exports else [])
