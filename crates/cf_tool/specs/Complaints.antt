-- For `complaint` of `main.rt`: the line that the program prints on standard error at each exit status but `Done`.
use Rattle.std.specs.Prelude.{ℕ, List, Option, Some, None, codes}
use Rattle.cf_base.specs.declared.status.Status.{Status}
use Rattle.cf_base.specs.declared.status.Status.TheVariants.{Done, Words, BadScript, ReadFault, WriteFault, OutOfMemory, TooLong, BadImage}

-- the line at this status, without its line feed; `None` at `Done`, for which nothing is printed
abbrev pub complaint_at : Status → Option (List ℕ)
complaint_at Done = None
complaint_at Words = Some (codes "cf_tool: bad words")
complaint_at BadScript = Some (codes "cf_tool: bad script")
complaint_at ReadFault = Some (codes "cf_tool: read fault")
complaint_at WriteFault = Some (codes "cf_tool: write fault")
complaint_at OutOfMemory = Some (codes "cf_tool: out of memory")
complaint_at TooLong = Some (codes "cf_tool: script too long")
complaint_at BadImage = Some (codes "cf_tool: bad image")
