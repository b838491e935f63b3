-- For `run_bench` and `BenchFigures::put`: opening the manager and applying the commands is a run of the generated script (`BenchRun`), and the line that is
-- printed, or a prefix of it, has the numbers of that run.
use Rattle.std.proofs.Common.{◌≡◌, ◌++◌, ℕ, List, [], ◌∷◌, map, Option, Some, None, refl, subst, append_assoc, codes}
use Rattle.top_call.specs.Bench.{BenchRun, EndsBench, IsAppliedTo, IsTextWritten, bench_items, bench_settings, bench_text, bench_figures}
use Rattle.top_call.specs.Bench.{good_ones, refusals}
use Rattle.top_call.specs.declared.figures.BenchFigures.{BenchFigures}
use Rattle.run_model.specs.Terms.{asks, fresh_session, HeapState, KeepsRules, Kind, Profile, profile_of, Reply, RunState, said, SessionState, Status, totals_in}
use Rattle.cf_base.specs.declared.results.Totals.{Totals}
use Rattle.cf_base.specs.declared.settings.Settings.{Settings}
use Rattle.cf_base.specs.declared.status.Status.TheVariants.{Done, Words, BadScript, ReadFault, WriteFault, OutOfMemory, TooLong, BadImage}
use Rattle.cf_model.specs.Steps.{IsEmptyHeap}
use Rattle.cf_session.specs.Apply.{run_at}
use Rattle.script_reader.specs.Generated.{generated}
use Rattle.run_model.specs.Runs.{Begins, Run}

-- six texts that are pushed on a line one by one are the line of all of them
pub six : (l m n o p q r a b c d e f : List ℕ) → l ≡ [] → m ≡ l ++ a → n ≡ m ++ b → o ≡ n ++ c → p ≡ o ++ d → q ≡ p ++ e → r ≡ q ++ f
    → r ≡ [] ++ (a ++ (b ++ (c ++ (d ++ (e ++ f)))))
six l m n o p q r a b c d e f h1 h2 h3 h4 h5 h6 h7 = rw (h7, h6, h5, h4, h3, h2, h1) (simp append_assoc)

-- the state of a run after its `heap` line: a manager that was opened with the settings of a bench, and a fresh session
pub opened : (kind : Kind) (session : SessionState) (heap : HeapState) (settings : Settings) → session ≡ fresh_session → IsEmptyHeap kind settings heap
    → KeepsRules heap → profile_of settings ≡ bench_settings → Begins kind bench_settings (run_at session heap)
opened kind session heap settings fresh empty rules is = subst (λ (p : Profile). Begins kind p (run_at session heap)) is
    (record { session = fresh; words = empty.words; order = empty.order; heap = empty.whole; rules = rules })

-- the opening, and then the commands, make the run of a bench
pub run_of_bench : (kind : Kind) (seed count ok refused : ℕ) (mid to : RunState) → Begins kind bench_settings mid → mid.heap.kind ≡ kind
    → (a : IsAppliedTo mid (generated seed count) to ok refused) → Run kind None (bench_items seed count) (said (codes "ok") ∷ a.replies) (Some to)
run_of_bench kind seed count ok refused mid to begins same a =
    let rest : Run kind (Some mid) (map (λ c. asks c) (generated seed count)) a.replies (Some to) =
    subst (λ (k : Kind). Run k (Some mid) (map (λ c. asks c) (generated seed count)) a.replies (Some to)) same a.run in
    (Some mid, said (codes "ok"), a.replies, (mid, (begins, refl), refl), refl, rest)

-- a bench that ran and wrote its text, or a prefix of it, ended as `EndsBench` allows
pub ends_bench : (status : Status) (seed count : ℕ) (from to : RunState) (before after : Option (List ℕ)) (run : BenchRun from.heap.kind seed count to)
    → IsTextWritten status before (bench_text count run.replies to) after → EndsBench status seed count from to before after
ends_bench Done seed count from to before after run written = record { run = run; written = written }
ends_bench WriteFault seed count from to before after run written = record { run = run; written = written }
ends_bench _ seed count from to before after run written = absurd written

abbrev figures_from : ℕ → ℕ → ℕ → Totals → ℕ → BenchFigures
figures_from count ok refused totals moves = record {
  commands = count;
  ok = ok;
  refused = refused;
  live = totals.live;
  pages = totals.used;
  moves = moves;
}

-- the numbers that the bench prints are those of its run
pub shown_figures : (count ok refused moves : ℕ) (totals : Totals) (replies : List Reply) (to : RunState) → ok ≡ good_ones replies
    → refused ≡ refusals replies → totals ≡ totals_in to.heap.kind to.heap → moves ≡ to.session.moves
    → figures_from count ok refused totals moves ≡ bench_figures count replies to
shown_figures count ok refused moves totals replies to good bad whole moved = rw (good, bad, whole, moved) refl
