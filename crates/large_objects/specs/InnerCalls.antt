-- The calls of an inner manager that it can't refuse, since there is room or the object is live: what they require and what they do. `old` is the manager
-- before the call, `new` after it, and q the handle of the inner object. No public clause cites this module.
use Rattle.std.specs.Prelude.{◌≡◌, ℕ, IsTrue, ◌+◌, ◌^◌, ◌≤◌, ◌<◌, List, Some, None, length, replicate}
use Rattle.std.specs.FinMap.{get, insert, remove, len}
use Rattle.cf_base.specs.Classes.{need}
use Rattle.page_model.specs.Arrangement.{pages_needed_with}
use Rattle.page_model.specs.Bytes.{written}
use Rattle.page_model.specs.Held.{objects}
use Rattle.page_model.specs.Paging.{EveryBoundIsOne}
use Rattle.cf_model.specs.Families.{IsPaged}
use Rattle.cf_model.specs.Ordered.{KeepsPromise}
use Rattle.cf_model.specs.Rules.{KeepsRules}
use Rattle.cf_model.specs.State.{HeapState, paging_in}
use Rattle.cf_model.specs.Steps.{KeepsSettings}

-- the manager is open, keeps its rules, has pages, and every class has the bound 1
pub record IsReadyInner (s : HeapState) : Type 0 where
  pub opened : IsTrue s.is_open
  pub rules : KeepsRules s
  pub pages : IsPaged s.kind
  pub ones : EveryBoundIsOne (paging_in s)

-- after a call the manager has the same settings and bounds, promises an order if it did before, and is ready
pub record StaysReady (old new : HeapState) : Type 0 where
  pub settings : KeepsSettings old new
  pub promise : KeepsPromise old new
  pub ready : IsReadyInner new

-- the manager has room for one more inner object of n bytes
pub record HasInnerRoom (s : HeapState) (n : ℕ) : Type 0 where
  pub fits : need n ≤ s.profile.page_words
  pub few : len (objects s.held) < s.profile.proxies
  pub pages : pages_needed_with (paging_in s) (objects s.held) n ≤ s.profile.pages

-- a malloc made the inner object q, of n zero bytes
pub record MakesOneInner (old : HeapState) (q n : ℕ) (new : HeapState) : Type 0 where
  pub stays : StaysReady old new
  pub unused : get (objects old.held) q ≡ None
  pub below : q < 2 ^ 32
  pub left : objects new.held ≡ insert (objects old.held) q (replicate n 0)

-- the inner object q is live, and the `count` bytes from its byte `at` on are within its `bytes`
pub record HasInner (s : HeapState) (q at count : ℕ) : Type 0 where
  pub bytes : List ℕ
  pub found : get (objects s.held) q ≡ Some bytes
  pub within : at + count ≤ length bytes

-- a write put these bytes into the live inner object q, from byte `at` on
pub record WritesInner (old : HeapState) (q at : ℕ) (bytes : List ℕ) (new : HeapState) : Type 0 where
  pub stays : StaysReady old new
  pub object : List ℕ
  pub found : get (objects old.held) q ≡ Some object
  pub left : objects new.held ≡ insert (objects old.held) q (written object at bytes)

-- a free removed the inner object q
pub record FreesInner (old : HeapState) (q : ℕ) (new : HeapState) : Type 0 where
  pub stays : StaysReady old new
  pub left : objects new.held ≡ remove (objects old.held) q
