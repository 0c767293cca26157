-- UnderLock: what is known of a stay under the lock: a hub that fits, and what one call made of it.
use Rattle.pt_hub.specs.Hubs.{HubView, IsConsistentHub}

-- while the lock was held there was a hub that fits, and this holds of it
pub record FoundUnderLock (P : HubView → Type 0) : Type 0 where
  pub hub : HubView
  pub fits : IsConsistentHub hub
  pub so : P hub

-- a hub that fits was there when the lock was taken, and another when it was released, and this
-- holds of the two
pub record ChangedUnderLock (P : HubView → HubView → Type 0) : Type 0 where
  pub old : HubView
  pub new : HubView
  pub fits : IsConsistentHub old
  pub fits_still : IsConsistentHub new
  pub so : P old new
