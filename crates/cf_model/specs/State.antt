-- What contracts see of a manager, as one record (`HeapState`): its settings, its objects, its words, its block table or its blocks, its order, and the cost of
-- the last malloc, free or resize. The state of a closed manager; the pages and classes of a state (`paging_in`); and its encoding, which a manager's `Model`
-- requires.
use Rattle.std.specs.Prelude.{ℕ, Bool, false, List, [], Option, Some, ◌*◌, refl}
use Rattle.std.specs.FinMap as map
use Rattle.std.specs.Coded.{Coded, code_by, coded×, coded_ℕ, coded_list, coded_bool, coded_option}
use Rattle.cf_base.specs.Settings.{Profile}
use Rattle.cf_base.specs.contracts.Kind as kind
use Rattle.cf_base.specs.declared.kind.Kind.{Kind}
use Rattle.cf_base.specs.declared.kind.Kind.TheVariants.{Moving, NonMoving, Tlsf, HalfFit}
use Rattle.cf_base.specs.declared.kind.Layout.{Layout}
use Rattle.cf_base.specs.declared.kind.Layout.TheVariants.{Words, Blocks}
use Rattle.page_model.specs.Held.{Held, placed_code}
use Rattle.page_model.specs.Order.{Order}
use Rattle.page_model.specs.Paging.{Paging, paging_of}
use Rattle.block_model.specs.Tiling.{Block}

-- What contracts see of a manager, open or closed. A list that doesn't apply to its kind is empty.
pub record HeapState : Type 0 where
  pub kind : Kind
  pub is_open : Bool
  -- the settings
  pub profile : Profile
  -- the bound of each class: how many of its pages may be partly full
  pub bounds : List ℕ
  -- the objects by number, each with its address and its bytes
  pub held : Held
  -- the words of the region; with a block table, the virtual words
  pub words : List ℕ
  -- with a block table, the physical block of each virtual block
  pub frames : List ℕ
  -- with blocks, the used and the free blocks, which fill the region, by rising address
  pub tiling : List Block
  -- what the manager uses next; none if it promises no order
  pub order : Option Order
  -- the steps of the last malloc or free, with pages also of the last resize
  pub cost : ℕ

-- the settings in the state of a manager that was never open
abbrev pub no_profile : Profile
no_profile = record { pages = 0; page_words = 0; k = 0; proxies = 0 }

-- the order in the state of a closed manager: it lists nothing, and shows only that the manager has an order once it is open
abbrev pub closed_order : Order
closed_order = record { pool = []; not_full = []; spare = [] }

-- the state of a manager of this kind that was never open; it promises an order
abbrev pub closed_state : Kind → HeapState
closed_state kind = record {
  kind = kind;
  is_open = false;
  profile = no_profile;
  bounds = [];
  held = map.empty;
  words = [];
  frames = [];
  tiling = [];
  order = Some closed_order;
  cost = 0;
}

-- the sequence of slot sizes of a kind with pages: `Words` are whole words, `Blocks` multiples of four words; the values for kinds with blocks mean nothing
abbrev pub layout_of : Kind → Layout
layout_of Moving = Words
layout_of NonMoving = Blocks
layout_of Tlsf = Words
layout_of HalfFit = Words

-- the number and size of the pages, the slot sizes and the bounds of a manager with pages
abbrev pub paging_in : HeapState → Paging
paging_in s = paging_of s.profile (layout_of s.kind) s.bounds

-- the number of words of a region with these settings
abbrev pub region_words : Profile → ℕ
region_words p = p.pages * p.page_words

-- the encoding of settings as nested pairs, for `state_code`
abbrev pub profile_code : Coded Profile
profile_code = code_by (ℕ × (ℕ × (ℕ × ℕ))) (coded× coded_ℕ (coded× coded_ℕ (coded× coded_ℕ coded_ℕ)))
    (λ p. (p.pages, (p.page_words, (p.k, p.proxies)))) (λ q. record { pages = q.0; page_words = q.1.0; k = q.1.1.0; proxies = q.1.1.1 }) (λ _. refl)

-- the encoding of a block as nested pairs, for `state_code`
abbrev pub block_code : Coded Block
block_code = code_by (ℕ × (ℕ × Option ℕ)) (coded× coded_ℕ (coded× coded_ℕ (coded_option coded_ℕ)))
    (λ b. (b.address, (b.size, b.owner))) (λ q. record { address = q.0; size = q.1.0; owner = q.1.1 }) (λ _. refl)

-- the encoding of an order as nested pairs, for `state_code`
abbrev pub order_code : Coded Order
order_code = code_by (List ℕ × (List (List ℕ) × List ℕ)) (coded× (coded_list coded_ℕ) (coded× (coded_list (coded_list coded_ℕ)) (coded_list coded_ℕ)))
    (λ o. (o.pool, (o.not_full, o.spare))) (λ q. record { pool = q.0; not_full = q.1.0; spare = q.1.1 }) (λ _. refl)

-- the fields of a state as nested pairs, in the order of the record
abbrev pub StateParts : Type 0
StateParts = Kind × (Bool × (Profile × (List ℕ × (Held × (List ℕ × (List ℕ × (List Block × (Option Order × ℕ))))))))

-- the encoding of these nested pairs
abbrev pub parts_code : Coded StateParts
parts_code = coded× kind.the_row.coded (coded× coded_bool (coded× profile_code (coded× (coded_list coded_ℕ) (coded× (map.code coded_ℕ placed_code)
    (coded× (coded_list coded_ℕ) (coded× (coded_list coded_ℕ) (coded× (coded_list block_code) (coded× (coded_option order_code) coded_ℕ))))))))

-- the encoding of a state as `StateParts`, which a manager's `Model` requires
abbrev pub state_code : Coded HeapState
state_code = code_by StateParts parts_code
    (λ s. (s.kind, (s.is_open, (s.profile, (s.bounds, (s.held, (s.words, (s.frames, (s.tiling, (s.order, s.cost))))))))))
    (λ q. record {
      kind = q.0;
      is_open = q.1.0;
      profile = q.1.1.0;
      bounds = q.1.1.1.0;
      held = q.1.1.1.1.0;
      words = q.1.1.1.1.1.0;
      frames =
          q.1.1.1.1.1.1.0;
      tiling = q.1.1.1.1.1.1.1.0;
      order = q.1.1.1.1.1.1.1.1.0;
      cost = q.1.1.1.1.1.1.1.1.1;
    })
    (λ _. refl)
