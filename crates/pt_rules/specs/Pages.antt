-- Pages: the page of XSH that a call is on, without `pthread_`.
use Rattle.std.specs.Prelude.{ℕ, List, codes}
use Rattle.pt_types.specs.declared.call.Call.{Call}
use Rattle.pt_types.specs.declared.call.Call.TheVariants as call

-- the page of a call
abbrev pub page_of : Call → List ℕ
page_of (call.MutexInit n kind robust) = codes "XSH mutex_init"
page_of (call.Lock n) = codes "XSH mutex_lock"
page_of (call.Trylock n) = codes "XSH mutex_trylock"
page_of (call.Timedlock n d) = codes "XSH mutex_timedlock"
page_of (call.Clocklock n k d) = codes "XSH mutex_clocklock"
page_of (call.Unlock n) = codes "XSH mutex_unlock"
page_of (call.Consistent n) = codes "XSH mutex_consistent"
page_of (call.MutexDestroy n) = codes "XSH mutex_destroy"
page_of (call.RwlockInit n) = codes "XSH rwlock_init"
page_of (call.Rdlock n) = codes "XSH rwlock_rdlock"
page_of (call.Tryrdlock n) = codes "XSH rwlock_tryrdlock"
page_of (call.Timedrdlock n d) = codes "XSH rwlock_timedrdlock"
page_of (call.Clockrdlock n k d) = codes "XSH rwlock_clockrdlock"
page_of (call.Wrlock n) = codes "XSH rwlock_wrlock"
page_of (call.Trywrlock n) = codes "XSH rwlock_trywrlock"
page_of (call.Timedwrlock n d) = codes "XSH rwlock_timedwrlock"
page_of (call.Clockwrlock n k d) = codes "XSH rwlock_clockwrlock"
page_of (call.Rwunlock n) = codes "XSH rwlock_unlock"
page_of (call.RwlockDestroy n) = codes "XSH rwlock_destroy"
page_of (call.CondInit n) = codes "XSH cond_init"
page_of (call.CondDestroy n) = codes "XSH cond_destroy"
page_of (call.Wait n m) = codes "XSH cond_wait"
page_of (call.Timedwait n m d) = codes "XSH cond_timedwait"
page_of (call.Clockwait n m k d) = codes "XSH cond_clockwait"
page_of (call.Signal n) = codes "XSH cond_signal"
page_of (call.Broadcast n) = codes "XSH cond_broadcast"
page_of (call.BarrierInit n count) = codes "XSH barrier_init"
page_of (call.Bwait n) = codes "XSH barrier_wait"
page_of (call.BarrierDestroy n) = codes "XSH barrier_destroy"
