-- What contracts see of an open heap with blocks (`Heap`: settings, words, blocks, free lists, proxies, counts): its objects, its order, the state of a
-- manager that has it or is closed, its invariant (`IsValid`), and its encoding.
use Rattle.std.specs.Prelude.{◌≡◌, ℕ, ◌*◌, List, [], true, Option, Some, None, length, refl}
use Rattle.std.specs.Coded.{Coded, code_by, coded×, coded_ℕ, coded_list}
use Rattle.cf_base.specs.contracts.Settings as settings
use Rattle.cf_base.specs.Settings.{profile_of}
use Rattle.cf_base.specs.declared.kind.Kind.{Kind}
use Rattle.cf_base.specs.declared.settings.Settings.{Settings}
use Rattle.page_model.specs.Held.{Held, objects}
use Rattle.page_model.specs.Figures.{asked_bytes}
use Rattle.page_model.specs.Order.{Order}
use Rattle.block_model.specs.FreeOrder.{AreListsOf}
use Rattle.block_model.specs.Tiling.{Block, used_words}
use Rattle.block_model.specs.Words.{AreTilingWords}
use Rattle.proxy_table.specs.Proxies.{Proxies, AreBelowLimit, proxies_code}
use Rattle.tag_blocks.specs.Blocks.{Tagged, AreTags, listed}
use Rattle.cf_model.specs.Families.{free_lists_of, list_count_of}
use Rattle.cf_model.specs.ReadObjects.{read_objects}
use Rattle.cf_model.specs.Rules.{AreOwned, KeepsRules, content_word}
use Rattle.cf_model.specs.State.{HeapState, block_code, closed_state}

-- An open heap as definitions see it: its settings; its words, blocks and free lists (`tagged`); the addresses of its objects by the
-- numbers of their proxies (`proxies`); how many bytes all objects have together (`asked`), and how many words all used blocks; and the steps of the last
-- malloc or free (`cost`).
pub record Heap : Type 0 where
  pub settings : Settings
  pub tagged : Tagged
  pub proxies : Proxies
  pub asked : ℕ
  pub used_words : ℕ
  pub cost : ℕ

-- the live objects by number; the words at each address hold the object's length and bytes
abbrev pub tag_held_in : Heap → Held
tag_held_in h = read_objects h.tagged.words h.proxies.places

-- the order of the heap: its free lists, and the numbers of its spare proxies, each list with the next one first
abbrev pub tag_order_of : Heap → Order
tag_order_of h = record { pool = []; not_full = h.tagged.lists; spare = h.proxies.free }

-- the state of a manager of this kind whose open heap is h
abbrev pub tag_state_of : Kind → Heap → HeapState
tag_state_of kind h = record {
  kind = kind;
  is_open = true;
  profile = profile_of h.settings;
  bounds = [];
  held = tag_held_in h;
  words = h.tagged.words;
  frames = [];
  tiling = h.tagged.blocks;
  order = Some (tag_order_of h);
  cost = h.cost;
}

-- The invariant of an open heap.
pub record IsValid (kind : Kind) (h : Heap) : Type 0 where
  -- the blocks fill the words, and each begins with its header and, if used, its tag
  pub tags : AreTags h.tagged
  -- the free lists are those of the kind
  pub lists : AreListsOf (free_lists_of kind) (list_count_of kind) (listed h.tagged)
  -- the region has the words of the pages of the settings
  pub words_long : length h.tagged.words ≡ h.settings.pages * h.settings.page_words
  -- each object has a used block of its own, and each used block an object
  pub owned : AreOwned (tag_held_in h) h.tagged.blocks
  -- each used block holds its object, and each free one zeros from word 2 on
  pub contents : AreTilingWords (content_word (tag_held_in h)) h.tagged.blocks h.tagged.words
  -- there are as many numbers as the settings have proxies, and each is live or free
  pub numbers : h.proxies.limit ≡ h.settings.proxies
  pub handles : AreBelowLimit h.proxies
  -- the counts are those of the objects and of the used blocks
  pub asked_all : h.asked ≡ asked_bytes (objects (tag_held_in h))
  pub used_all : h.used_words ≡ used_words h.tagged.blocks

-- the state of a manager of this kind whose heap is open, or closed (`None`)
abbrev pub tag_state_in : Kind → Option Heap → HeapState
tag_state_in kind None = closed_state kind
tag_state_in kind (Some h) = tag_state_of kind h

-- the invariant of a manager's heap, which is open and keeps the rules, or closed (`None`)
abbrev pub IsKeptIn : Kind → Option Heap → Type 0
IsKeptIn kind None = Unit {0}
IsKeptIn kind (Some h) = KeepsRules (tag_state_of kind h)

-- the fields of a heap as nested pairs, for `heap_code`
abbrev pub HeapParts : Type 0
HeapParts = Settings × (List ℕ × (List Block × (List (List ℕ) × (Proxies × (ℕ × (ℕ × ℕ))))))

-- the encoding of a heap as nested pairs, which the trait `Model` requires
abbrev pub heap_code : Coded Heap
heap_code = code_by HeapParts
    (coded× settings.the_row.coded (coded× (coded_list coded_ℕ)
    (coded× (coded_list block_code) (coded× (coded_list (coded_list coded_ℕ)) (coded× proxies_code (coded× coded_ℕ (coded× coded_ℕ coded_ℕ)))))))
    (λ h. (h.settings, (h.tagged.words, (h.tagged.blocks, (h.tagged.lists, (h.proxies, (h.asked, (h.used_words, h.cost))))))))
    (λ q. record {
      settings = q.0;
      tagged = record { words = q.1.0; blocks = q.1.1.0; lists = q.1.1.1.0 };
      proxies = q.1.1.1.1.0;
      asked = q.1.1.1.1.1.0;
      used_words = q.1.1.1.1.1.1.0;
      cost = q.1.1.1.1.1.1.1;
    })
    (λ _. refl)
