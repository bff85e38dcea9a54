use Rattle.slat_view.proofs.observer.FitsObserver.flip.Goals as goal
