-- What is looked at of a live pass decides whether its event is allowed.
use Rattle.std.proofs.Common.{◌≡◌, ℕ, ◌<◌, List, Option, Some, None, Contains, refl, sym, ap, ◌∙◌, subst}
use Rattle.mr_frame.specs.Frame.{Framed}
use Rattle.mr_nogood.specs.declared.row.Row.{Row}
use Rattle.mr_nogood.specs.Follows.{Rows, in_slots}
use Rattle.mr_exchange.specs.Cubes.{cube_count}
use Rattle.mr_exchange.specs.State.{Pass, pass_at, IsLive}
use Rattle.mr_exchange.specs.Events.{AvoidsKnownRows, MayOpen, MayPublish}
use Rattle.mr_exchange.specs.Held.{Held, state_of}
use Rattle.mr_exchange.specs.Private.Held.{IsHeld}
use Rattle.mr_exchange.specs.Private.Deciding.{IsHit, AvoidsSlots, MayUse, MayFill}
use Rattle.mr_exchange.proofs.Bounds.{cube_within}

-- no known row hits
pub avoids_known : (g : Held) (p : Pass) (node : List ℕ) → AvoidsSlots (in_slots g.slots) p.known node → AvoidsKnownRows (state_of g) p node
avoids_known g p node none slot row has at short part = none slot has (subst (λ o. IsHit o node) (sym at) (short, part))

-- and the other way round
pub known_avoids : (g : Held) (p : Pass) (node : List ℕ) → AvoidsKnownRows (state_of g) p node → AvoidsSlots (in_slots g.slots) p.known node
known_avoids g p node none slot has hit = read (in_slots g.slots slot) refl hit
  where
    read : (o : Option Row) → in_slots g.slots slot ≡ o → IsHit o node → ⊥
    read None at h = h
    read (Some row) at h = none slot row has at h.0 h.1

-- what is looked at of a live pass, in the state that is held
module _ (h : Held) (k : ℕ) (live : IsLive (state_of h) k) where
  -- it may open the node
  pub opens : (node : List ℕ) → MayUse h.frame h.problem.depth (in_slots h.slots) (pass_at (state_of h) k) node → MayOpen (state_of h) k node
  opens node may = record {
    live = live;
    alone = may.draws.alone;
    no_end = may.draws.no_end;
    is_node = may.is_node;
    avoids = avoids_known h (pass_at (state_of h) k) node may.avoids;
    looked = may.draws.looked;
  }

  -- and only then
  pub opened_by : (node : List ℕ) → MayOpen (state_of h) k node → MayUse h.frame h.problem.depth (in_slots h.slots) (pass_at (state_of h) k) node
  opened_by node may = record {
    draws = record { alone = may.alone; no_end = may.no_end; looked = may.looked };
    is_node = may.is_node;
    avoids = known_avoids h (pass_at (state_of h) k) node may.avoids;
  }

  -- it may publish the row
  pub publishes : (slot : ℕ) (row : Row) → MayFill h.frame (in_slots h.slots) (pass_at (state_of h) k) slot row → MayPublish (state_of h) k slot row
  publishes slot row may = record { live = live; own = may.own; empty = may.empty; follows = may.follows; rank = may.rank }

  -- and only then
  pub published_by : (slot : ℕ) (row : Row) → MayPublish (state_of h) k slot row → MayFill h.frame (in_slots h.slots) (pass_at (state_of h) k) slot row
  published_by slot row may = record { own = may.own; empty = may.empty; follows = may.follows; rank = may.rank }

-- what holds of the parts that are looked at, and of the state
module _ (F : Framed → ℕ → Rows → Pass → Type 0) (g old : Held) (f : Framed) (k : ℕ) (p : Pass) (slots : List (Option Row)) (view : g ≡ old) (frame : old.frame ≡ f) (is : p ≡ pass_at (state_of old) k) (same : slots ≡ g.slots) where
  -- the rows are those of the state
  rows_are : slots ≡ old.slots
  rows_are = same ∙ ap (λ (h : Held). h.slots) view

  -- from the parts to the state
  pub there : F f g.problem.depth (in_slots slots) p → F old.frame old.problem.depth (in_slots old.slots) (pass_at (state_of old) k)
  there h =
      subst (λ q. F old.frame old.problem.depth (in_slots old.slots) q) is
      (subst (λ xs. F old.frame old.problem.depth (in_slots xs) p) rows_are
      (subst (λ (x : Held). F old.frame x.problem.depth (in_slots slots) p) view
      (subst (λ x. F x g.problem.depth (in_slots slots) p) (sym frame) h)))

  -- and back
  pub back : F old.frame old.problem.depth (in_slots old.slots) (pass_at (state_of old) k) → F f g.problem.depth (in_slots slots) p
  back h =
      subst (λ x. F x g.problem.depth (in_slots slots) p) frame
      (subst (λ (x : Held). F old.frame x.problem.depth (in_slots slots) p) (sym view)
      (subst (λ xs. F old.frame old.problem.depth (in_slots xs) p) (sym rows_are)
      (subst (λ q. F old.frame old.problem.depth (in_slots old.slots) q) (sym is) h)))

-- the cubes of a live pass are cubes
pub cubes_within : (g old : Held) (f : Framed) (k : ℕ) (p : Pass) → g ≡ old → old.frame ≡ f → p ≡ pass_at (state_of old) k → IsHeld g → IsLive (state_of old) k → (c : ℕ) → Contains p.cubes c → c < cube_count f g.problem.depth
cubes_within g old f k p view frame is held live =
    back (λ x depth rows q. (c : ℕ) → Contains q.cubes c → c < cube_count x depth) g old f k p g.slots view frame is refl
    (λ c has. cube_within old (subst IsHeld view held) k c live has)
