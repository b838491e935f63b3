-- For the callers of `leave_slot`: once the number of an owner's object is released, its slot can be left; and the object that then moves there is the one that
-- was at the address which the tables give (`other` of `Owner`).
use Rattle.std.proofs.Common.{◌≡◌, ℕ, ◌+◌, ◌-◌, ◌%◌, ◌^◌, Bool, List, get_or, arith, ◌∙◌, ap, subst, sym}
use Rattle.std.specs.Prelude.{◌↔◌, IsTrue, is_some}
use Rattle.std.specs.FinMap.{get, remove}
use Rattle.cf_base.specs.declared.kind.Kind.{Kind}
use Rattle.page_model.specs.Image.{IsDisjoint}
use Rattle.proxy_table.specs.Proxies.{AreBelowLimit, Proxies}
use Rattle.virtual_words.specs.Words.{IsWhole}
use Rattle.page_slots.specs.Leaving.{LeavesFilled, MayLeave, Parts}
use Rattle.page_slots.specs.Owner.{IsObjectAt, MustMoveInto, Owner}
use Rattle.page_slots.specs.Tables.{AreTables, Tables}
use Rattle.page_slots.proofs.Owner.{Fills, OwnsObjects, class_listed, header_in, it_inside, it_used, live_still, other, slots_apart, some_not_full, source_in}

-- the parts of the owner w, with these proxies and frames
abbrev pub with_proxies : Owner → Proxies → List ℕ → Parts
with_proxies w p frames = record { classes = w.classes; tables = w.tables; proxies = p; words = w.words; frames = frames }

-- `shown`: the header of the object that moves has its number plus `first`
module _ {w : Owner} (k : OwnsObjects w) {q a size c : ℕ} (o : IsObjectAt w q a size c) (first : ℕ)
    (shown : (b : ℕ) (new : Tables) (f : Fills w q a size c b new) → get_or w.words b 0 % 2 ^ 32 ≡ first + other f) {p : Proxies} {frames : List ℕ} {words : ℕ} where
  pub may_leave : (kind : Kind) (moves : Bool) → words ≡ get_or w.classes.sizes c 0 → (IsTrue moves ↔ MustMoveInto w a c) → p.places ≡ remove w.places q
      → AreBelowLimit p → IsWhole kind a → IsWhole kind words → ((b : ℕ) (new : Tables) → Fills w q a size c b new → IsWhole kind b)
      → MayLeave kind (with_proxies w p frames) (record { class = c; place = a; words = words; first = first }) moves
  may_leave kind moves is due gone handles whole whole_words whole_source = record {
    tables = subst (λ t. AreTables t w.tables) k.table k.serve.tables;
    used = it_used k o;
    class = class_listed k o;
    words = is;
    inside = (let i = it_inside k o in omega arith);
    handles = handles;
    whole = whole;
    whole_words = whole_words;
    some = λ t. some_not_full k o (due.0 t);
    mover = λ t from new filled tables. (
        let f : Fills w q a size c from new = record { valid = k; object = o; moves = due.0 t; filled = filled; tables = tables } in
        let holds = shown from new f in
        let number : get_or w.words from 0 % 2 ^ 32 - first ≡ other f = omega arith in
        record {
          header = header_in f;
          source = (let s = source_in f in omega arith);
          apart = subst (λ n. IsDisjoint from n a n) (sym is) (slots_apart f);
          whole = whole_source from new f;
          first = omega arith;
          live = ap (λ j. is_some (get p.places j)) number ∙ ap (λ m. is_some (get m (other f))) gone ∙ ap is_some (live_still f);
        });
  }

  pub other_moved : {r : ℕ} {n : Parts} (left : LeavesFilled (with_proxies w p frames) (record { class = c; place = a; words = words; first = first }) r n)
      (f : Fills w q a size c left.from n.tables) → r ≡ other f
  other_moved {r} {n} left f = (let is = left.number in let e = shown left.from n.tables f in omega arith)
