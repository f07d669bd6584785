-- Where all that leads to something off every cycle leads to what it leads to instead, the same lie on cycles.
use Rattle.std.proofs.Common.{◌≡◌, ◌⊎◌, ◌↔◌, inl, inr, refl, subst}
use Rattle.run_rules.specs.Cycles.{Chain, last_link, more_links, OnCycle, GivesWay}

module _ {A : Type 0} (leads : A → A → Type 0) where
  pub joined : (a b c : A) → Chain leads a b → Chain leads b c → Chain leads a c
  joined a b c (last_link x y h) k = more_links x y c h k
  joined a b c (more_links x y z h r) k = more_links x y c h (joined y z c r k)

  module _ (after : A → A → Type 0) (m : A) (w : GivesWay leads after m) where
    was : (a b : A) → leads a b ⊎ (leads a m × leads m b) → Chain leads a b
    was a b (inl h) = last_link a b h
    was a b (inr h) = more_links a m b h.0 (last_link m b h.1)

    was_chain : (a b : A) → Chain after a b → Chain leads a b
    was_chain a b (last_link x y h) = was x y (w.comes x y h)
    was_chain a b (more_links x y z h r) = joined x y z (was x y (w.comes x y h)) (was_chain y z r)

    module _ (off : OnCycle leads m → ⊥) where
      -- a chain that closes doesn't pass m
      is_link : (a b : A) → Chain leads b a → leads a b → after a b ⊎ (b ≡ m) → after a b
      is_link a b back h (inl k) = k
      is_link a b back h (inr e) =
          absurd (off (subst (λ (x : A). Chain leads x x) e (joined b a b back (last_link a b h))))

      is_chain : (a b : A) → Chain leads a b → Chain leads b a → Chain after a b
      is_chain a b (last_link x y h) back = last_link x y (is_link x y back h (w.stays x y h))
      is_chain a b (more_links x y z h r) back =
          more_links x y z (is_link x y (joined y z x r back) h (w.stays x y h))
          (is_chain y z r (joined z x y back (last_link x y h)))

      pub same_cycles : (a : A) → OnCycle leads a ↔ OnCycle after a
      same_cycles a = (λ h. is_chain a a h h, λ h. was_chain a a h)

-- ---- an example: a first function used a second one, and that a third; now the first uses the third

data Letter : Type 0 where
  a_first a_second a_third : Letter

data Before : Letter → Letter → Type 0 where
  first_uses : Before a_first a_second
  second_uses : Before a_second a_third

data After : Letter → Letter → Type 0 where
  first_uses_now : After a_first a_third
  second_uses_still : After a_second a_third

gives_way : GivesWay Before After a_second
gives_way = record { stays = stays; comes = comes }
  where
    stays : (a b : Letter) → Before a b → After a b ⊎ (b ≡ a_second)
    stays a b first_uses = inr refl
    stays a b second_uses = inl second_uses_still

    comes : (a b : Letter) → After a b → Before a b ⊎ (Before a a_second × Before a_second b)
    comes a b first_uses_now = inr (first_uses, second_uses)
    comes a b second_uses_still = inl second_uses
