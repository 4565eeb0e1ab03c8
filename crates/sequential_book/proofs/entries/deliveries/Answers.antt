use Rattle.sequential_book.proofs.entries.deliveries.Goals as goal
