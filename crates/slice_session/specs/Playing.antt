-- Mode `slice` for the script loop: how a run over a sliced heap begins, the runs over a script, the state after a failed allocation, the state of a mode
-- handler, and which quanta it may have. `sliced` is the semantics of a session, `slices` that of the mode handler.
use Rattle.std.specs.Prelude.{◌≡◌, ◌≤◌, ◌*◌, ℕ, true, List, Option, codes, replicate}
use Rattle.run_model.specs.Terms.{empty, Ids, Item, Profile, Reply, said}
use Rattle.cf_base.specs.declared.kind.Layout.TheVariants.{Words}
use Rattle.page_model.specs.Order.{first_order}
use Rattle.page_model.specs.Paging.{first_bounds, paging_of}
use Rattle.run_model.specs.Plays.{PlayRun}
use Rattle.script_loop.specs.Semantics.{Semantics}
use Rattle.script_loop.specs.Applying.{TurnsInPart}
use Rattle.slice_model.specs.State.{Idle}
use Rattle.sliced_heap.specs.Shown.{KeepsSlicedRules, SlicedState, closed_sliced}
use Rattle.slice_session.specs.SliceRun.{IsGoingSliced, SliceRun, SliceStep, slice_run}

-- the open heap after a `heap` line with the settings p: without objects and without a job, with these settings, but always the bound 1
abbrev pub first_heap : ℕ → Profile → SlicedState
first_heap quantum p = record {
  is_open = true;
  profile = record p { k = 1 };
  quantum = quantum;
  held = empty;
  job = Idle;
  words = replicate (p.pages * p.page_words) 0;
  order = first_order (paging_of (record p { k = 1 }) Words (first_bounds (record p { k = 1 }) Words)) p.proxies;
}

-- the run `new` after a `heap` line with the settings p: the heap is new, with slices of at most `quantum` words, and no id is live
pub record BeginsSliced (quantum : ℕ) (p : Profile) (new : SliceRun) : Type 0 where
  pub ids : new.ids ≡ empty
  pub heap : new.heap ≡ first_heap quantum p
  pub rules : KeepsSlicedRules new.heap

-- the run begins as in `BeginsSliced`, and the reply to the `heap` line is `ok`
abbrev pub BeginsSlices : ℕ → Profile → Reply → SliceRun → Type 0
BeginsSlices quantum p reply new = BeginsSliced quantum p new × (reply ≡ said (codes "ok"))

-- A run with slices of at most the given number of words, from a state (None before the `heap` line): the items may have these replies, one each, and lead
-- to the new state.
abbrev pub RunsSliced : ℕ → Option SliceRun → List Item → List Reply → Option SliceRun → Type 0
RunsSliced quantum = PlayRun (BeginsSlices quantum) SliceStep

-- an allocation failed at the `heap` line: the heap is closed, and the session is unchanged
pub record LacksSliced (old new : SliceRun) : Type 0 where
  pub closed : new.heap ≡ closed_sliced
  pub ids : new.ids ≡ old.ids

-- The semantics of a session over a sliced heap, for the script loop. Its field `plan` is the quantum of the heap, in words.
abbrev pub sliced : Semantics SliceRun ℕ
sliced = record {
  plan = λ s. s.heap.quantum;
  is_fresh = λ s. s.ids ≡ empty;
  is_going = IsGoingSliced;
  begins = BeginsSlices;
  turns = SliceStep;
  turns_in_part = TurnsInPart SliceStep;
  lacks = LacksSliced;
}

-- the state of a mode handler: its run, and the quantum in words with which it opens the heap
pub record SlicePlay : Type 0 where
  pub run : SliceRun
  pub quantum : ℕ

-- the mode handler with these live ids, this quantum in words, and this heap
abbrev pub slice_play : Ids → ℕ → SlicedState → SlicePlay
slice_play ids quantum heap = record { run = slice_run ids heap; quantum = quantum }

-- a quantum is 1 to 16,384 words
pub record IsQuantum (n : ℕ) : Type 0 where
  pub least : 1 ≤ n
  pub most : n ≤ 16384

-- before the `heap` line no id is live, and the quantum is in its range
pub record IsFreshPlay (s : SlicePlay) : Type 0 where
  pub ids : s.run.ids ≡ empty
  pub quantum : IsQuantum s.quantum

-- The semantics of the mode handler, for the script loop. Its field `plan` is the quantum in words with which the handler opens the heap.
abbrev pub slices : Semantics SlicePlay ℕ
slices = record {
  plan = λ s. s.quantum;
  is_fresh = IsFreshPlay;
  is_going = λ s. IsGoingSliced s.run;
  begins = λ quantum p reply new. BeginsSlices quantum p reply new.run;
  turns = λ old command reply new. SliceStep old.run command reply new.run;
  turns_in_part = λ old command out new. TurnsInPart SliceStep old.run command out new.run;
  lacks = λ old new. LacksSliced old.run new.run;
}

-- the run of a mode handler
abbrev pub run_of_play : SlicePlay → SliceRun
run_of_play s = s.run
