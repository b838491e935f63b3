-- In memory a `Held` of a manager with blocks is its fields, a `LooseTag`, whose heap is valid and open (`Fits`). Who owns the `Held` may own the `LooseTag`
-- instead, at the same place, and the reverse. Each type on the way down to the heads of the free lists has an invariant, which is opened and closed in turn.
use Rattle.std.proofs.Common.{◌≡◌, ℕ, List, [], ◌∷◌, refl, sym, ap, ◌∙◌, subst, Option, Some, None}
use seplogic.Ra.Ura.{Ura}
use base.Fraction.{full_share}
use base.Fml.{Fml, feq, fex, fsep, ftrue}
use mir.Val.{Val, vstruct, of_list}
use types.Logic.{Logic}
use types.Kit.{Item, Goal, Seq, Step, step, ‵, ◌$◌, drop, move, fsplit, fjoin, fpick, fpack, feq_i, feq_l}
use types.Match.{live}
use denote.RattleType.{RattleType, Valss, flat, owns}
use denote.Memory.{cell_at, mem, part_of}
use denote.Steps.{nothing}
use denote.Struct.Struct.{within}
use denote.Struct.Declared.{shape, fields}
use Rattle.std.specs.contracts.option.Option.{the_row as option_row}
use Rattle.cf_model.specs.State.{HeapState}
use Rattle.tag_blocks.specs.Blocks.{Tagged}
use Rattle.tag_blocks.specs.Layout.{IsValid as AreValidBlocks}
use Rattle.tag_blocks.specs.ListHeads.{AreMarkedCells}
use Rattle.tag_blocks.specs.Tags.{blocks_of, lists_of}
use Rattle.tag_blocks.specs.contracts.list_heads.ListHeads as heads
use Rattle.tag_blocks.specs.contracts.list_heads.ListHeads.TheInside as inside_heads
use Rattle.tag_blocks.specs.declared.list_heads.ListHeads.TheInside as heads_fields
use Rattle.tag_blocks.specs.contracts.blocks.TagBlocks as blocks
use Rattle.tag_blocks.specs.contracts.blocks.TagBlocks.TheInside as inside_blocks
use Rattle.tag_blocks.specs.declared.blocks.TagBlocks.TheInside as blocks_fields
use Rattle.tag_blocks.specs.declared.buckets.Buckets as buckets
use Rattle.tag_heap.specs.Heap.{Heap, IsKeptIn, IsValid, tag_state_in}
use Rattle.tag_heap.specs.contracts.open_heap.OpenHeap as open_heap
use Rattle.tag_heap.specs.contracts.open_heap.OpenHeap.TheInside as inside_open
use Rattle.tag_heap.specs.declared.open_heap.OpenHeap.TheInside as open_fields
use Rattle.tag_heap.specs.contracts.manager.TagHeap as heap
use Rattle.tag_heap.specs.contracts.manager.TagHeap.TheInside as inside_manager
use Rattle.tag_heap.specs.declared.manager.TagHeap.TheInside as manager_fields
use Rattle.tag_heap.specs.contracts.manager.TagHeapManager.TheImpl as manager
use Rattle.tag_heap.specs.contracts.manager.TagHeapStepBounds.TheImpl as step_bounds
use Rattle.tag_heap.specs.declared.fit_policy.FitPolicy as policy
use Rattle.held_heap.specs.contracts.of_kind.TagHeapOfKind.TheImpl as of_kind
use Rattle.held_heap.specs.contracts.held.Held.TheInside as inside_held
use Rattle.held_heap.specs.declared.held.Held.TheInside as held_fields
use Rattle.held_heap.specs.contracts.loose_tag.LooseHeads as loose_heads
use Rattle.held_heap.specs.contracts.loose_tag.LooseBlocks as loose_blocks
use Rattle.held_heap.specs.contracts.loose_tag.LooseOpen as loose_open
use Rattle.held_heap.specs.contracts.loose_tag.LooseManager as loose_manager
use Rattle.held_heap.specs.contracts.loose_tag.LooseTag as loose
use Rattle.held_heap.specs.declared.loose_tag.LooseHeads.{LooseHeads}
use Rattle.held_heap.specs.declared.loose_tag.LooseBlocks.{LooseBlocks}
use Rattle.held_heap.specs.declared.loose_tag.LooseOpen.{LooseOpen}
use Rattle.held_heap.specs.declared.loose_tag.LooseManager.{LooseManager}
use Rattle.held_heap.specs.declared.loose_tag.LooseTag.{LooseTag}
use Rattle.held_heap.specs.HeldState.{HeldState, IsOpenOfKind}
use Rattle.c_base.specs.Lending.{IsLooseOf}
use Rattle.held_heap.specs.LooseTag.{Rule, FitBlocks, FitIn, FitOpen, Fits, lending, seen_in, seen_heap, loose_state_of, state_seen, seen_blocks}
use Rattle.held_heap.specs.Tag as tag

-- the type of the fields
abbrev pub S : RattleType
S = loose.the_row

abbrev Heads : RattleType
Heads = heads.the_row

-- the fields that show a value and keep the invariant of its type
abbrev HeadsOf : List ℕ → Type 0
HeadsOf xs = (i : heads_fields.Inside) × ((i.addresses ≡ xs) × AreMarkedCells i.addresses i.lists i.groups)

abbrev tagged_with : List ℕ → List ℕ → Tagged
tagged_with ws hs = record { words = ws; blocks = blocks_of ws; lists = lists_of ws hs }

-- what is owned of an open heap in an `Option`
abbrev payload : (R : RattleType) → R.Denot → List Val → List Val → Valss (R ∷ []) → Fml
payload R h vs us zs = fsep (feq (List Val) us (flat (R ∷ []) zs)) (owns (R ∷ []) (h, tt) zs)

abbrev tagged : (R : RattleType) → R.Denot → List Val → List Val → Fml
tagged R h vs us = fsep (feq (List Val) vs (live 1 (of_list us) ∷ [])) (fex (Valss (R ∷ [])) (payload R h vs us))

module _ {M : Type 1} {𝓤 : Ura M} {𝓛 : Logic 𝓤} {K : Type 0} {Γ : List (Item 𝓤)} {G : Goal 𝓤 𝓛.H} where
  heads_out : K → (xs : List ℕ) (vs : List Val)
      → ((a : LooseHeads) → a.addresses ≡ xs → AreMarkedCells a.addresses a.lists a.groups → Seq K 𝓛 (‵ (loose_heads.the_row.own_val a vs) ∷ Γ) G)
      → Seq K 𝓛 (‵ (Heads.own_val xs vs) ∷ Γ) G
  heads_out t xs vs k = fpick t (λ (i : HeadsOf xs). fsplit t $ move t (1 ∷ []) $ drop t $
      k (record { addresses = i.0.addresses; lists = i.0.lists; groups = i.0.groups }) i.1.0 i.1.1)

  heads_in : K → (a : LooseHeads) (vs : List Val) → AreMarkedCells a.addresses a.lists a.groups
      → Step K 𝓛 (‵ (Heads.own_val a.addresses vs) ∷ Γ) G (‵ (loose_heads.the_row.own_val a vs) ∷ Γ) G
  heads_in t a vs marked = step (λ s. nothing t $ move t (1 ∷ 0 ∷ []) $ fjoin t $
      fpack t (HeadsOf a.addresses) (λ i. fsep (inside_heads.the_row.own_val i.0 vs) ftrue)
      (record { addresses = a.addresses; lists = a.lists; groups = a.groups }, (refl, marked)) $ s)

-- for each free-list rule, by its type R and the ghost members P and B of its traits
module _ (R : RattleType) (P : policy.Ghosts R.Denot) (B : buckets.Ghosts R.Denot) where
  abbrev rule : Rule
  rule = tag.rule_of R P B

  abbrev T : RattleType
  T = tag.open_heap R P B

  -- each type on the way, and the type of its fields
  abbrev Blocks : RattleType
  Blocks = blocks.the_row R B

  abbrev BlocksIn : RattleType
  BlocksIn = inside_blocks.the_row R B

  abbrev Open : RattleType
  Open = open_heap.the_row R P B

  abbrev OpenIn : RattleType
  OpenIn = inside_open.the_row R P B

  abbrev Manager : RattleType
  Manager = heap.the_row R P B

  abbrev ManagerIn : RattleType
  ManagerIn = inside_manager.the_row R P B

  abbrev HeldIn : RattleType
  HeldIn = inside_held.the_row Manager
      (of_kind.ghosts R P of_kind.no_dict B of_kind.no_dict of_kind.no_dict)
      (manager.ghosts R P manager.no_dict B manager.no_dict manager.no_dict)
      (step_bounds.ghosts R P step_bounds.no_dict B step_bounds.no_dict step_bounds.no_dict)

  abbrev BlocksOf : Tagged → Type 0
  BlocksOf v = (i : blocks_fields.Inside R.Denot) × ((tagged_with i.region i.heads ≡ v)
      × AreValidBlocks rule.lists rule.count (record { words = i.region; heads = i.heads; used = i.used; free = i.free }))

  abbrev shown_open : open_fields.Inside R.Denot → Tagged → Heap
  shown_open i v = record { settings = i.settings; tagged = v; proxies = i.proxies; asked = i.asked; used_words = i.used_words; cost = i.cost }

  abbrev OpenOf : Heap → Type 0
  OpenOf h = (i : open_fields.Inside R.Denot) × ((shown_open i i.blocks ≡ h) × IsValid rule.kind (shown_open i i.blocks))

  abbrev ManagerOf : HeapState → Type 0
  ManagerOf s = (i : manager_fields.Inside R.Denot) × ((tag_state_in rule.kind i.inner ≡ s) × IsKeptIn rule.kind i.inner)

  abbrev HeldOf : HeldState → Type 0
  HeldOf x = (i : held_fields.Inside HeapState) × ((◌≡◌ {A = HeldState} (record { heap = i.heap; steps = i.steps; handles = i.handles; counts = i.counts }) x) × IsOpenOfKind rule.kind i.heap)

  module _ {M : Type 1} {𝓤 : Ura M} {𝓛 : Logic 𝓤} {K : Type 0} {Γ : List (Item 𝓤)} {G : Goal 𝓤 𝓛.H} where
    blocks_out : K → (v : Tagged) (vs : List Val)
        → ((a : LooseBlocks) → seen_blocks a ≡ v → FitBlocks rule a → Seq K 𝓛 (‵ (loose_blocks.the_row.own_val a vs) ∷ Γ) G)
        → Seq K 𝓛 (‵ (Blocks.own_val v vs) ∷ Γ) G
    blocks_out t v vs k = fpick t (λ (i : BlocksOf v). fsplit t $ move t (1 ∷ []) $ drop t $
        fpick t (λ vss. fsplit t $ feq_l t (λ whole. fsplit t $ move t (1 ∷ []) $ fsplit t $
        -- [the heads; the other fields; the region]
        heads_out t i.0.heads vss.1.0 (λ h e marked.
        let a : LooseBlocks = record { region = i.0.region; heads = h; used = i.0.used; free = i.0.free; rule = record {} } in
        fjoin t $ move t (1 ∷ 0 ∷ []) $ fjoin t $
        feq_i t (List Val) vs (vstruct (of_list (flat (fields loose_blocks.the_type) vss)) ∷ []) whole $ fjoin t $
        fpack t (Valss (fields loose_blocks.the_type)) (within (shape loose_blocks.the_type) (loose_blocks.the_type.to a) vs) vss $
        k a (ap (tagged_with i.0.region) e ∙ i.1.0) (record {
          marked = marked;
          valid = subst (λ hs. AreValidBlocks rule.lists rule.count (record { words = i.0.region; heads = hs; used = i.0.used; free = i.0.free })) (sym e) i.1.1;
        })))))

    blocks_in : K → (a : LooseBlocks) (vs : List Val) → FitBlocks rule a
        → Step K 𝓛 (‵ (Blocks.own_val (seen_blocks a) vs) ∷ Γ) G (‵ (loose_blocks.the_row.own_val a vs) ∷ Γ) G
    blocks_in t a vs fit = step (λ s.
        let i : blocks_fields.Inside R.Denot = record { region = a.region; heads = a.heads.addresses; used = a.used; free = a.free; rule = record {} } in
        let type = inside_blocks.the_type R B in
        fpick t (λ vss. fsplit t $ feq_l t (λ whole. fsplit t $ move t (1 ∷ []) $ fsplit t $
        heads_in t a.heads vss.1.0 fit.marked $ fjoin t $ move t (1 ∷ 0 ∷ []) $ fjoin t $
        feq_i t (List Val) vs (vstruct (of_list (flat (fields type) vss)) ∷ []) whole $ fjoin t $
        fpack t (Valss (fields type)) (within (shape type) (type.to i) vs) vss $ nothing t $ move t (1 ∷ 0 ∷ []) $ fjoin t $
        fpack t (BlocksOf (seen_blocks a)) (λ i. fsep (BlocksIn.own_val i.0 vs) ftrue) (i, (refl, fit.valid)) $ s)))

  module _ {M : Type 1} {𝓤 : Ura M} {𝓛 : Logic 𝓤} {K : Type 0} {Γ : List (Item 𝓤)} {G : Goal 𝓤 𝓛.H} where
    open_out : K → (h : Heap) (vs : List Val)
        → ((a : LooseOpen) → seen_heap a ≡ h → FitOpen rule a → Seq K 𝓛 (‵ (loose_open.the_row.own_val a vs) ∷ Γ) G)
        → Seq K 𝓛 (‵ (Open.own_val h vs) ∷ Γ) G
    open_out t h vs k = fpick t (λ (i : OpenOf h). fsplit t $ move t (1 ∷ []) $ drop t $
        fpick t (λ vss. fsplit t $ feq_l t (λ whole. fsplit t $ move t (1 ∷ []) $ fsplit t $
        -- [the blocks; the fields behind them; the settings]
        blocks_out t i.0.blocks vss.1.0 (λ b e fit.
        let a : LooseOpen = record { settings = i.0.settings; blocks = b; proxies = i.0.proxies; asked = i.0.asked; used_words = i.0.used_words; cost = i.0.cost } in
        fjoin t $ move t (1 ∷ 0 ∷ []) $ fjoin t $
        feq_i t (List Val) vs (vstruct (of_list (flat (fields loose_open.the_type) vss)) ∷ []) whole $ fjoin t $
        fpack t (Valss (fields loose_open.the_type)) (within (shape loose_open.the_type) (loose_open.the_type.to a) vs) vss $
        k a (ap (shown_open i.0) e ∙ i.1.0) (record { blocks = fit; valid = subst (λ v. IsValid rule.kind (shown_open i.0 v)) (sym e) i.1.1 })))))

    open_in : K → (a : LooseOpen) (vs : List Val) → FitOpen rule a
        → Step K 𝓛 (‵ (Open.own_val (seen_heap a) vs) ∷ Γ) G (‵ (loose_open.the_row.own_val a vs) ∷ Γ) G
    open_in t a vs fit = step (λ s.
        let i : open_fields.Inside R.Denot =
        record { settings = a.settings; blocks = seen_blocks a.blocks; proxies = a.proxies; asked = a.asked; used_words = a.used_words; cost = a.cost } in
        let type = inside_open.the_type R P B in
        fpick t (λ vss. fsplit t $ feq_l t (λ whole. fsplit t $ move t (1 ∷ []) $ fsplit t $
        blocks_in t a.blocks vss.1.0 fit.blocks $ fjoin t $ move t (1 ∷ 0 ∷ []) $ fjoin t $
        feq_i t (List Val) vs (vstruct (of_list (flat (fields type) vss)) ∷ []) whole $ fjoin t $
        fpack t (Valss (fields type)) (within (shape type) (type.to i) vs) vss $ nothing t $ move t (1 ∷ 0 ∷ []) $ fjoin t $
        fpack t (OpenOf (seen_heap a)) (λ i. fsep (OpenIn.own_val i.0 vs) ftrue) (i, (refl, fit.valid)) $ s)))

  module _ {M : Type 1} {𝓤 : Ura M} {𝓛 : Logic 𝓤} {K : Type 0} {Γ : List (Item 𝓤)} {G : Goal 𝓤 𝓛.H} where
    inner_out : K → (o : Option Heap) (vs : List Val)
        → ((a : Option LooseOpen) → seen_in a ≡ o → FitIn rule a → Seq K 𝓛 (‵ ((option_row loose_open.the_row).own_val a vs) ∷ Γ) G)
        → Seq K 𝓛 (‵ ((option_row Open).own_val o vs) ∷ Γ) G
    inner_out t None vs k = k None refl tt
    inner_out t (Some h) vs k = fpick t (λ us. fsplit t $ feq_l t (λ is. fpick t (λ zs. fsplit t $ feq_l t (λ flat_is. fsplit t $
        open_out t h zs.0 (λ a e fit. fjoin t $ feq_i t (List Val) us (flat (loose_open.the_row ∷ []) zs) flat_is $ fjoin t $
        fpack t (Valss (loose_open.the_row ∷ [])) (payload loose_open.the_row a vs us) zs $ feq_i t (List Val) vs (live 1 (of_list us) ∷ []) is $ fjoin t $
        fpack t (List Val) (tagged loose_open.the_row a vs) us $ k (Some a) (ap Some e) fit)))))

    inner_in : K → (a : Option LooseOpen) (vs : List Val) → FitIn rule a
        → Step K 𝓛 (‵ ((option_row Open).own_val (seen_in a) vs) ∷ Γ) G (‵ ((option_row loose_open.the_row).own_val a vs) ∷ Γ) G
    inner_in t None vs fit = step (λ s. s)
    inner_in t (Some a) vs fit = step (λ s. fpick t (λ us. fsplit t $ feq_l t (λ is. fpick t (λ zs. fsplit t $ feq_l t (λ flat_is. fsplit t $
        open_in t a zs.0 fit $ fjoin t $ feq_i t (List Val) us (flat (Open ∷ []) zs) flat_is $ fjoin t $
        fpack t (Valss (Open ∷ [])) (payload Open (seen_heap a) vs us) zs $ feq_i t (List Val) vs (live 1 (of_list us) ∷ []) is $ fjoin t $
        fpack t (List Val) (tagged Open (seen_heap a) vs) us $ s)))))

  module _ {M : Type 1} {𝓤 : Ura M} {𝓛 : Logic 𝓤} {K : Type 0} {Γ : List (Item 𝓤)} {G : Goal 𝓤 𝓛.H} where
    manager_out : K → (h : HeapState) (vs : List Val)
        → ((a : LooseManager) → state_seen rule.kind a.inner ≡ h → FitIn rule a.inner → IsKeptIn rule.kind (seen_in a.inner) → Seq K 𝓛 (‵ (loose_manager.the_row.own_val a vs) ∷ Γ) G)
        → Seq K 𝓛 (‵ (Manager.own_val h vs) ∷ Γ) G
    manager_out t h vs k = fpick t (λ (i : ManagerOf h). fsplit t $ move t (1 ∷ []) $ drop t $
        fpick t (λ vss. fsplit t $ feq_l t (λ whole. fsplit t $ move t (1 ∷ []) $ fsplit t $
        -- [the heap, open or closed; nothing; the allocator]
        inner_out t i.0.inner vss.1.0 (λ o e fit.
        let a : LooseManager = record { alloc = i.0.alloc; inner = o } in
        fjoin t $ move t (1 ∷ 0 ∷ []) $ fjoin t $
        feq_i t (List Val) vs (vstruct (of_list (flat (fields loose_manager.the_type) vss)) ∷ []) whole $ fjoin t $
        fpack t (Valss (fields loose_manager.the_type)) (within (shape loose_manager.the_type) (loose_manager.the_type.to a) vs) vss $
        k a (ap (tag_state_in rule.kind) e ∙ i.1.0) fit (subst (IsKeptIn rule.kind) (sym e) i.1.1)))))

    manager_in : K → (a : LooseManager) (vs : List Val) → FitIn rule a.inner → IsKeptIn rule.kind (seen_in a.inner)
        → Step K 𝓛 (‵ (Manager.own_val (state_seen rule.kind a.inner) vs) ∷ Γ) G (‵ (loose_manager.the_row.own_val a vs) ∷ Γ) G
    manager_in t a vs fit rules = step (λ s.
        let i : manager_fields.Inside R.Denot = record { alloc = a.alloc; inner = seen_in a.inner } in
        let type = inside_manager.the_type R P B in
        fpick t (λ vss. fsplit t $ feq_l t (λ whole. fsplit t $ move t (1 ∷ []) $ fsplit t $
        inner_in t a.inner vss.1.0 fit $ fjoin t $ move t (1 ∷ 0 ∷ []) $ fjoin t $
        feq_i t (List Val) vs (vstruct (of_list (flat (fields type) vss)) ∷ []) whole $ fjoin t $
        fpack t (Valss (fields type)) (within (shape type) (type.to i) vs) vss $ nothing t $ move t (1 ∷ 0 ∷ []) $ fjoin t $
        fpack t (ManagerOf (state_seen rule.kind a.inner)) (λ i. fsep (ManagerIn.own_val i.0 vs) ftrue) (i, (refl, rules)) $ s)))

  module _ {M : Type 1} {𝓤 : Ura M} {𝓛 : Logic 𝓤} {K : Type 0} {Γ : List (Item 𝓤)} {G : Goal 𝓤 𝓛.H} where
    pub loosen : K → (x : HeldState) (b o : ℕ) → ((a : LooseTag) → IsLooseOf (lending rule) a x → Seq K 𝓛 (‵ ((mem S).own_at a b o) ∷ Γ) G)
        → Seq K 𝓛 (‵ ((mem T).own_at x b o) ∷ Γ) G
    unfolding part_of
    loosen t x b o k =
        fpick t (λ vs. fsplit t $ move t (1 ∷ []) $
        -- [what the `Held` owns; its cell]
        fpick t (λ (i : HeldOf x). fsplit t $ move t (1 ∷ []) $ drop t $ fpick t (λ vss. fsplit t $ feq_l t (λ whole. fsplit t $
        -- [the manager; the other fields; the cell]
        manager_out t i.0.heap vss.0 (λ m e fit rules.
        let a : LooseTag = record { heap = m; steps = i.0.steps; memory = i.0.memory; handles = i.0.handles; counts = i.0.counts } in
        fjoin t $ feq_i t (List Val) vs (vstruct (of_list (flat (fields loose.the_type) vss)) ∷ []) whole $ fjoin t $
        fpack t (Valss (fields loose.the_type)) (within (shape loose.the_type) (loose.the_type.to a) vs) vss $
        move t (1 ∷ 0 ∷ []) $ fjoin t $ fpack t (List Val) (λ us. fsep (cell_at full_share S.mir us b o) (S.own_val a us)) vs $
        k a (record {
          fit = record { valid = fit; rules = rules; open_now = subst (IsOpenOfKind rule.kind) (sym e) i.1.1 };
          shown = ap (λ (s : HeapState). record { heap = s; steps = i.0.steps; handles = i.0.handles; counts = i.0.counts }) e ∙ i.1.0;
        }))))))

    pub tighten : K → (a : LooseTag) (b o : ℕ) → Fits rule a → Step K 𝓛 (‵ ((mem T).own_at (loose_state_of rule.kind a) b o) ∷ Γ) G (‵ ((mem S).own_at a b o) ∷ Γ) G
    unfolding part_of
    tighten t a b o fit = step (λ s.
        let x = loose_state_of rule.kind a in
        let i : held_fields.Inside HeapState = record { heap = state_seen rule.kind a.heap.inner; steps = a.steps; memory = a.memory; handles = a.handles; counts = a.counts } in
        let type = inside_held.the_type Manager
        (of_kind.ghosts R P of_kind.no_dict B of_kind.no_dict of_kind.no_dict)
        (manager.ghosts R P manager.no_dict B manager.no_dict manager.no_dict)
        (step_bounds.ghosts R P step_bounds.no_dict B step_bounds.no_dict step_bounds.no_dict) in
        fpick t (λ vs. fsplit t $ move t (1 ∷ []) $ fpick t (λ vss. fsplit t $ feq_l t (λ whole. fsplit t $
        -- [the manager's fields; the other fields; the cell]
        manager_in t a.heap vss.0 fit.valid fit.rules $
        fjoin t $ feq_i t (List Val) vs (vstruct (of_list (flat (fields type) vss)) ∷ []) whole $ fjoin t $
        fpack t (Valss (fields type)) (within (shape type) (type.to i) vs) vss $
        nothing t $ move t (1 ∷ 0 ∷ []) $ fjoin t $
        fpack t (HeldOf x) (λ i. fsep (HeldIn.own_val i.0 vs) ftrue) (i, (refl, fit.open_now)) $
        move t (1 ∷ 0 ∷ []) $ fjoin t $ fpack t (List Val) (λ us. fsep (cell_at full_share T.mir us b o) (T.own_val x us)) vs $ s))))
