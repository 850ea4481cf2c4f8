use Rattle.std.proofs.sync.Mutex.TheSendSync as MutexS
use Rattle.std.proofs.sync.Condvar.TheSendSync as CondvarS
use Rattle.std.proofs.alloc.Global.TheSendSync as GlobalS
use Rattle.mz_workers.proofs.Crossing.{Board-send}
use Rattle.mz_workers.proofs.run_all.run_workers.Goals as goal

pub map_indices-ended-requires-sync-F : goal.map_indices-ended-requires-sync-F
map_indices-ended-requires-sync-F g c κs within = record { shared = λ x b o κ. ((((λ q. tt), (c.type_bounds.sync-R).shared x.0.now x.0.ref_ptr.0 x.0.ref_ptr.1 _), (((λ q. tt), (GlobalS.the_sync).shared x.1.now x.1.ref_ptr.0 x.1.ref_ptr.1 κ), (((λ q. tt), (MutexS.the_sync _ (Board-send _ _ g.C.Semantics g.K.SharedCorpus c.type_bounds.send-C c.type_bounds.send-K)).shared x.2.now x.2.ref_ptr.0 x.2.ref_ptr.1 _), (((λ q. tt), (CondvarS.the_sync).shared x.3.now x.3.ref_ptr.0 x.3.ref_ptr.1 _), (((λ q. tt), (c.type_bounds.sync-C).shared x.4.now x.4.ref_ptr.0 x.4.ref_ptr.1 _), (((λ q. tt), (c.type_bounds.sync-G).shared x.5.now x.5.ref_ptr.0 x.5.ref_ptr.1 _), tt)))))), λ q. tt) }
