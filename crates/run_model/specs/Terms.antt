-- The terms in which files on scripts and their runs speak, passed on from the files that define them: commands, replies and states of runs, heaps with
-- kinds, settings, rules, pages and objects, what a heap is asked and answers, statuses, finite maps, sources and sinks. Declares nothing.
pub use Rattle.std.specs.FinMap.{empty, get, insert, len, remove}
pub use Rattle.script_reader.specs.Commands.{IsWellFormed}
pub use Rattle.script_reader.specs.Items.{Item, asks, bad, items, starts}
pub use Rattle.script_reader.specs.Owned.{owned_command}
pub use Rattle.script_reader.specs.declared.command.Command.{Command}
pub use Rattle.script_reader.specs.declared.command.Command.TheVariants.{Admit, Block, Bound, Frag, Free, Malloc, Need, Peek, Place, Quota, Read, Resize, Slice, Steps, Task, Walk, Write}
pub use Rattle.run_model.specs.Sessions.{AreTied, CostsAtMost, CostsByKind, Ids, IsGoing, RunState, SessionState, counted, fresh_session, more_by, session_code}
pub use Rattle.run_model.specs.Texts.{Reply, bad_line, led, said, text_of, with_number}
pub use Rattle.cf_base.specs.Classes.{need}
pub use Rattle.cf_base.specs.Settings.{Profile, at_bound_one, profile_of}
pub use Rattle.cf_base.specs.declared.results.AccessFault.{AccessFault}
pub use Rattle.cf_base.specs.declared.results.Failed.{Failed}
pub use Rattle.cf_base.specs.declared.results.Freed.{Freed}
pub use Rattle.cf_base.specs.declared.results.Handle.{Handle}
pub use Rattle.cf_base.specs.declared.results.Refusal.{Refusal}
pub use Rattle.cf_base.specs.declared.results.ResizeFault.{ResizeFault}
pub use Rattle.cf_base.specs.declared.results.Resized.{Resized}
pub use Rattle.cf_base.specs.declared.kind.Kind.{Kind}
pub use Rattle.cf_base.specs.declared.kind.Kind.TheVariants.{HalfFit, Moving, NonMoving, Tlsf}
pub use Rattle.cf_base.specs.declared.status.Status.{Status}
pub use Rattle.cf_model.specs.Answers.{totals_in, with_bound}
pub use Rattle.cf_model.specs.Families.{family_of, paged, tiled}
pub use Rattle.cf_model.specs.Rules.{AreInRange, IsPaged, KeepsRules}
pub use Rattle.cf_model.specs.State.{HeapState, closed_state, paging_in, region_words}
pub use Rattle.cf_model.specs.Steps.{Position}
pub use Rattle.page_model.specs.Arrangement.{IsSound, class_at}
pub use Rattle.page_model.specs.Bytes.{AreBytes, written}
pub use Rattle.page_model.specs.Held.{Held, Objects, Placed, objects}
pub use Rattle.page_model.specs.Paging.{EveryBoundIsOne, IsPaging, Paging, classes, page_of, slot_words, slots_of}
pub use Rattle.page_model.specs.Steps.{Request}
pub use Rattle.cf_io.specs.Feeds.{SinkFailsIf, SinkState, SourceFailsIf, SourceState, Writes, appended}
