-- What the values of the code stand for.
use Rattle.std.specs.Prelude.{◌≡◌, ℕ, List, [], ◌++◌, map, Some, None, Ok, Err, String, string_bytes, vec_items, Option, Result}
use Rattle.std.specs.Global.{Global}
use Rattle.tags.specs.Gauge.{gauge_means}
use Rattle.tags.specs.Pump.{pump_means}
use Rattle.tags.specs.declared.gauge.GaugePages.{GaugePages}
use Rattle.tags.specs.declared.linked.Linked.{Linked}
use Rattle.tags.specs.declared.pump.PumpPages.{PumpPages}
use Rattle.tray_core.specs.Views.{model_of}
use Rattle.tray_core.specs.declared.tray.Tray.{Tray}
use Rattle.sheet.specs.declared.faults.LineFault.{LineFault}
use Rattle.sheet.specs.declared.naming.Named.{Named}
use Rattle.sheet.specs.declared.running.Ran.{Ran}
use Rattle.sheet.specs.declared.stages.Stage as coded
use Rattle.sheet.specs.declared.stages.Stage.TheVariants as code
use Rattle.sheet.specs.declared.stops.LineStop.{LineStop}
use Rattle.sheet.specs.declared.stops.LineStop.TheVariants as line
use Rattle.sheet.specs.declared.stops.SheetFault.{SheetFault}
use Rattle.sheet.specs.declared.stops.SheetFault.TheVariants as fault
use Rattle.sheet.specs.declared.stops.SheetStop.{SheetStop}
use Rattle.sheet.specs.declared.stops.SheetStop.TheVariants as sheet
use Rattle.sheet.specs.Drafts.{pump_draft, gauge_draft}
use Rattle.sheet.specs.Faults.{fault_number}
use Rattle.sheet.specs.Sheets.{SheetTray, Stage, Naming, Calling, Came, Went, Stopped, Refused, Run, before, ended, refused_at}

-- The tray, the tags that are named, and where a run stands.
abbrev pub tray_of : Tray (Linked PumpPages) (Linked GaugePages) → SheetTray
tray_of tray = model_of pump_means gauge_means tray

abbrev pub named_stage : Named → Stage
named_stage n = Naming (map pump_draft (vec_items n.front)) (map gauge_draft (vec_items n.back))

abbrev pub stage_of : coded.Stage → Stage
stage_of (code.Naming n) = named_stage n
stage_of (code.Calling tray) = Calling (tray_of tray)

-- What came of a line, its text behind an older one.
abbrev pub came_behind : List ℕ → Came → Came
came_behind old (Went printed stage) = Went (old ++ printed) stage
came_behind old (Stopped why) = Stopped why

-- What the code answered of a line that found an old text and left a new one is what came of it,
-- unless memory was wanting.
abbrev pub CameBy : Result coded.Stage LineStop → String Global → String Global → Came → Type 0
CameBy (Ok stage) old new came =
    came_behind (string_bytes old) came ≡ Went (string_bytes new) (stage_of stage)
CameBy (Err (line.Fault f)) old new came =
    (string_bytes new ≡ string_bytes old) × (came ≡ Stopped (fault_number f))
CameBy (Err (line.Memory e)) old new came = Unit {0}

-- The same of a line that prints nothing.
abbrev pub QuietBy : Result coded.Stage LineStop → Came → Type 0
QuietBy (Ok stage) came = came ≡ Went [] (stage_of stage)
QuietBy (Err (line.Fault f)) came = came ≡ Stopped (fault_number f)
QuietBy (Err (line.Memory e)) came = Unit {0}

-- The tags that are named, of a stage that is not yet past them.
abbrev pub NamedBy : Result Named LineFault → Stage → Type 0
NamedBy (Ok named) stage = stage ≡ named_stage named
NamedBy (Err f) stage = (tray : SheetTray) × (stage ≡ Calling tray) × (fault_number f ≡ 17)

-- A page that is set among the tags that are named.
abbrev pub PagedBy : Result (Unit {0}) LineFault → Named → Came → Type 0
PagedBy (Ok u) after came = came ≡ Went [] (named_stage after)
PagedBy (Err f) after came = came ≡ Stopped (fault_number f)

abbrev pub refused_by : SheetFault → Refused
refused_by fault.TooLong = record { line = 0; why = 12 }
refused_by (fault.Line number f) = record { line = number; why = fault_number f }

abbrev pub refused_in : Option SheetFault → Option Refused
refused_in (Some f) = Some (refused_by f)
refused_in None = None

-- A run of the code.
abbrev pub run_by : Ran → Run
run_by ran = record { text = string_bytes ran.text; refused = refused_in ran.fault }

-- What stops a line stops the sheet at the line's number.
abbrev pub stop_at : ℕ → LineStop → SheetStop
stop_at number (line.Fault f) = sheet.Fault (fault.Line number f)
stop_at number (line.Memory e) = sheet.Memory e

-- The text that the code left is that of the run, but for the line of a refusal, which is still to
-- come; unless memory was wanting.
abbrev pub RanBy : Result (Unit {0}) SheetStop → String Global → Run → Type 0
RanBy (Ok u) text run = run ≡ before (string_bytes text) ended
RanBy (Err (sheet.Fault f)) text run = run ≡ before (string_bytes text) (refused_at (refused_by f))
RanBy (Err (sheet.Memory e)) text run = Unit {0}
